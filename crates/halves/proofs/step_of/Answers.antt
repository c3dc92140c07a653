-- The invariant: the lowest and the highest sample tell whether one so far lies outside the limits, and each sum is that of the rules, wrapped. The measure is
-- what is left of the samples. Assumes nothing.
use Rattle.std.proofs.Common.{◌≡◌, ℕ, ◌+◌, ◌*◌, Bool, ◌||◌, get_or, pos, sym, refl, ap, ◌∙◌, arith, w32, to_z}
use mir.ValLaws.{to_z-of_z}
use Rattle.rules.specs.Halves.{samples_of, square}
use Rattle.halves.specs.Steps.{outside_in}
use Rattle.halves.proofs.Sweep.{low-more, high-more, sum_more, outside_told, step-unknown, step-known}
use Rattle.halves.proofs.step_of.Goals.{After-is_too_high, After-loop-i}
use Rattle.halves.proofs.step_of.Goals as goal

-- at the end all samples are passed, and the two tests tell whether one lies outside
done : (c : After-loop-i) → c.loop-i.i ≡ samples_of c.args.w.now
done c = omega (arith, c.loop-i-test.false, c.loop-i.invariant.0)

told : (c : After-is_too_high)
    → c.is_too_low.result || c.is_too_high.result ≡ outside_in c.args.w.now
told c =
    let l = c.loop-i in
    both _ _ _ _ c.is_too_low.ensures c.is_too_high.ensures ∙ outside_told _ _ (done c.before.before) c.requires.few c.requires.threes (to_z w32 l.low-bits) (to_z w32 l.high-bits) l.invariant.1 l.invariant.2
  where
    both : (a b x y : Bool) → a ≡ x → b ≡ y → a || b ≡ x || y
    both a b x y e f = rw (e, f)

pub loop-i-preserved : goal.loop-i-preserved
loop-i-preserved c =
    let l = c.loop-i in
    let w = c.args.w.now in
    let i = l.i in
    let ex = to_z-of_z w32 (get_or w (3 * i) (pos 0)) (record { sfits = c.x-1.given }) in
    let ey = to_z-of_z w32 (get_or w (3 * i + 1) (pos 0)) (record { sfits = c.y-1.given }) in
    let ez = to_z-of_z w32 (get_or w (3 * i + 2) (pos 0)) (record { sfits = c.z-1.given }) in
    let e₀ : 3 * i + 0 ≡ 3 * i = omega arith in (
      omega (arith, c.loop-i-test.true),
      low-more w i (to_z w32 l.low-bits) _ _ _ _ _ _ l.invariant.1 ex ey ez
          (to_z-of_z w32 c.min.result (record { sfits = c.min.type_inv }) ∙ c.min.ensures.value)
          (to_z-of_z w32 c.min-in-loop-i.result (record { sfits = c.min-in-loop-i.type_inv }) ∙ c.min-in-loop-i.ensures.value)
          (to_z-of_z w32 c.min-low.result (record { sfits = c.min-low.type_inv }) ∙ c.min-low.ensures.value),
      high-more w i (to_z w32 l.high-bits) _ _ _ _ _ _ l.invariant.2 ex ey ez
          (to_z-of_z w32 c.max.result (record { sfits = c.max.type_inv }) ∙ c.max.ensures.value)
          (to_z-of_z w32 c.max-in-loop-i.result (record { sfits = c.max-in-loop-i.type_inv }) ∙ c.max-in-loop-i.ensures.value)
          (to_z-of_z w32 c.max-high.result (record { sfits = c.max-high.type_inv }) ∙ c.max-high.ensures.value),
      sum_more w 0 i _ _ _ l.invariant.3 (c.square-a.ensures ∙ ap square ex ∙ ap (λ (j : ℕ). square (get_or w j (pos 0))) (sym e₀)) refl,
      sum_more w 1 i _ _ _ l.invariant.4 (c.square-b.ensures ∙ ap square ey) refl,
      sum_more w 2 i _ _ _ l.invariant.5 (c.square-c.ensures ∙ ap square ez) refl,
    )

pub returns-then-is_too_low-is_too_high : goal.returns-then-is_too_low-is_too_high
returns-then-is_too_low-is_too_high c =
    let l = c.loop-i in
    step-unknown _ _ (done (goal.at.returns-then-is_too_low-is_too_high c).After-loop-i) c.requires.few c.requires.threes (sym (told (goal.at.returns-then-is_too_low-is_too_high c).After-is_too_high) ∙ c.if-is_too_low-is_too_high.true)

pub returns : goal.returns
returns c =
    let l = c.loop-i in
    step-known _ _ (done (goal.at.returns c).After-loop-i) c.requires.few c.requires.threes (sym (told (goal.at.returns c).After-is_too_high) ∙ c.if-is_too_low-is_too_high.false) _ _ _ l.invariant.3 l.invariant.4 l.invariant.5
