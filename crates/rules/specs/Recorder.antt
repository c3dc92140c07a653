-- What the recorder hands over: samples, and the seven settings.
use Rattle.std.specs.Prelude.{ℕ, ◌+◌, ◌*◌, ◌%◌, Bool, false, not, ◌&&◌, ◌||◌, cond, List, length, get_or, ℤ, pos, negsuc, nat_abs, leb, eqb}
use Rattle.rules.specs.Bounded.{first_not}
use Rattle.rules.specs.declared.Settings.{Settings}

-- three channels interleaved, a, b, c, a, b, c: sample i of channel c (a is 0)
abbrev pub sample_at : List ℤ → ℕ → ℕ → ℤ
sample_at xs c i = get_or xs (3 * i + c) (pos 0)

-- the one value -2,147,483,648 means "missing"
abbrev pub missing : ℤ → Bool
missing (pos n) = false
missing (negsuc n) = eqb n 2147483647

-- a sample lies from -100,000 to 100,000, or is missing; any other value is out of range
abbrev pub in_range : ℤ → Bool
in_range x = missing x || leb (nat_abs x) 100000

-- the first index in the run whose sample is out of range; the run's length where there is none
unfoldable pub first_bad : List ℤ → ℕ
first_bad xs = first_not (λ i. in_range (get_or xs i (pos 0))) 0 (length xs)

-- ---- the settings

abbrev pub within : ℕ → ℕ → ℕ → Bool
within low high x = leb low x && leb x high

-- N: even, 8 to 512
abbrev pub n_good : ℕ → Bool
n_good n = within 8 512 n && eqb (n % 2) 0

-- f: 50 or 60
abbrev pub f_good : ℕ → Bool
f_good f = eqb f 50 || eqb f 60

-- the number of the first setting that is outside its range, in their order; 0 where none is
unfoldable pub bad_setting : Settings → ℕ
bad_setting s =
    cond (not (n_good s.n)) 1
    (cond (not (within 1000 50000 s.r)) 2
    (cond (not (f_good s.f)) 3
    (cond (not (within 50 95 s.sag)) 4
    (cond (not (within 1 20 s.interruption)) 5
    (cond (not (within 105 150 s.swell)) 6
    (cond (not (leb s.hysteresis 5)) 7 0))))))

unfoldable pub settings_good : Settings → Bool
settings_good s = eqb (bad_setting s) 0
