-- The square of a sample, by way of an i64: x is any i32, so the square is at most 2 ^ 62. Assumes nothing.
use Rattle.std.proofs.Common.{◌≡◌, ◌^◌, ◌<◌, ℤ, pos, negsuc, ◌*ℤ◌, sym, refl, ap, ◌∙◌, subst, lt_of_le_of_lt, mul-le-mul, lit<, to_z-of_z, w32, w64, SFits, to_z, of_z}
use lib.Signed.{nat_abs-le}
use mir.Facts.{sfits_widen}
use Rattle.rules.specs.Halves.{square}

square_is : (x : ℤ) → x *ℤ x ≡ pos (square x)
square_is (pos a) = refl
square_is (negsuc a) = refl

module _ (x : ℤ) (f : SFits w32 x) where
  -- x as an i64
  abbrev wide : ℤ
  wide = to_z w64 (of_z w64 (to_z w32 (of_z w32 x)))

  pub widens : SFits w64 (to_z w32 (of_z w32 x))
  widens = subst (SFits w64) (sym (to_z-of_z f)) (sfits_widen tt f)

  product : wide *ℤ wide ≡ pos (square x)
  product =
      ap (λ (y : ℤ). y *ℤ y) (ap (λ (y : ℤ). to_z w64 (of_z w64 y)) (to_z-of_z f) ∙ to_z-of_z {w = w64} (sfits_widen tt f))
      ∙ square_is x

  pub square-fits : square x < 2 ^ 63
  square-fits = let h = nat_abs-le x f.sfits in lt_of_le_of_lt (mul-le-mul h h) (lit< tt)

  pub product_fits : SFits w64 (wide *ℤ wide)
  product_fits = subst (SFits w64) (sym product) (record { sfits = square-fits })

  pub read_back : to_z w64 (of_z w64 (wide *ℤ wide)) ≡ pos (square x)
  read_back = to_z-of_z {w = w64} product_fits ∙ product
