-- The numbers that a `fill` line gives.
use Rattle.std.specs.Prelude.{ℕ, zero, suc, ◌+◌, ◌*◌, ◌/◌, ◌%◌, ◌^◌, List, map}
use Rattle.dt_base.specs.Ranges.{below}
use Rattle.dt_job.specs.declared.fills.Fill.{Fill}
use Rattle.dt_job.specs.declared.fills.Fill.TheVariants.{Ramp, Seed}

-- p + 1 at each of the first n positions p
abbrev pub ramp_values : ℕ → List ℕ
ramp_values n = map (λ p. p + 1) (below n)

-- the state behind this one
abbrev pub next_state : ℕ → ℕ
next_state s = (s * 6364136223846793005 + 1442695040888963407) % 2 ^ 64

-- the state after k steps from a seed
abbrev pub state_after : ℕ → ℕ → ℕ
state_after seed zero = seed
state_after seed (suc k) = next_state (state_after seed k)

-- at each of the first n positions p, what the state after p + 1 steps has above its last 33 bits
abbrev pub seed_values : ℕ → ℕ → List ℕ
seed_values seed n = map (λ p. state_after seed (p + 1) / 2 ^ 33) (below n)

-- the numbers of a fill at the first n positions
abbrev pub fill_values : Fill → ℕ → List ℕ
fill_values Ramp n = ramp_values n
fill_values (Seed seed) n = seed_values seed n
