-- How the code looks for the root of q: by Newton's steps down from a first guess.
use Rattle.std.specs.Prelude.{ℕ, zero, suc, ◌+◌, ◌-◌, ◌*◌, ◌≤◌, ◌<◌}

-- r is the root, rounded down, or above it
abbrev pub NotBelow : ℕ → ℕ → Type 0
NotBelow q r = q < (r + 1) * (r + 1)

-- r is the root, rounded down
abbrev pub IsRoot : ℕ → ℕ → Type 0
IsRoot q r = (r * r ≤ q) × NotBelow q r

-- by how much the square of r is above q: by nothing if r is the root
abbrev pub excess : ℕ → ℕ → ℕ
excess q r = r * r - q

-- a first guess: its excess is at most an eighth of q
abbrev pub First : ℕ → ℕ → Type 0
First q r = NotBelow q r × (8 * excess q r ≤ q)

-- a step from r to t: the excess shrinks to at most its square over 4q
abbrev pub Nearer : ℕ → ℕ → ℕ → Type 0
Nearer q r t = (t ≤ r) × NotBelow q t × (4 * q * excess q t ≤ excess q r * excess q r)

-- what n such steps from a first guess reach
abbrev pub Reached : ℕ → ℕ → ℕ → Type 0
Reached zero q r = First q r
Reached (suc n) q r = (p : ℕ) × Reached n q p × Nearer q p r
