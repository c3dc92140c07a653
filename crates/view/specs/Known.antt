-- K12 and a ragged run, walked by the definitions alone: all three channels and the one above them. Assumes nothing.
use Rattle.std.specs.Prelude.{ℕ, ◌≡◌, refl, List, [], ◌∷◌, ◌++◌, map, replicate, ℤ, pos, negsuc, Option, Some, None}
use Rattle.rules.specs.Known.{block}
use Rattle.view.specs.Channel.{holds, reading_of, next_of, readings}

record Case : Type 0 where
  given : List ℤ
  -- how many readings, and what they are on channels 0 to 3
  count : ℕ
  walked : List (List (Option ℤ))

walk_of : List ℤ → ℕ → Case
walk_of xs n = record { given = xs; count = n; walked = map (λ c. readings xs c 0 n) (0 ∷ 1 ∷ 2 ∷ 3 ∷ []) }

abbrev thousands : ℕ → List (Option ℤ)
thousands n = replicate n (Some (pos 1000))

cases : List Case
cases =
    -- K12: 1000 1000 500 500 1000 1000 on channel a, 1000 on b and c
    record {
      given = block 1000 1000 ++ block 1000 1000 ++ block 500 1000 ++ block 500 1000 ++ block 1000 1000 ++ block 1000 1000;
      count = 26;
      walked =
          (thousands 8 ++ replicate 8 (Some (pos 500)) ++ thousands 8 ++ None ∷ None ∷ [])
          ∷ (thousands 24 ++ None ∷ None ∷ [])
          ∷ (thousands 24 ++ None ∷ None ∷ [])
          ∷ replicate 26 None
          ∷ [];
    }
    -- eight samples: a and b have three, c two; a's second is missing, b's second and third are out of range
    ∷ record {
      given = pos 1 ∷ pos 2 ∷ pos 3 ∷ negsuc 2147483647 ∷ pos 100001 ∷ negsuc 4 ∷ pos 7 ∷ pos 2147483647 ∷ [];
      count = 4;
      walked =
          (Some (pos 1) ∷ Some (negsuc 2147483647) ∷ Some (pos 7) ∷ None ∷ [])
          ∷ (Some (pos 2) ∷ Some (pos 100001) ∷ Some (pos 2147483647) ∷ None ∷ [])
          ∷ (Some (pos 3) ∷ Some (negsuc 4) ∷ None ∷ None ∷ [])
          ∷ replicate 4 None
          ∷ [];
    }
    ∷ []

known_walks : map (λ (c : Case). walk_of c.given c.count) cases ≡ cases
unfolding walk_of cases holds reading_of next_of
known_walks = refl
