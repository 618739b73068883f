-- Which later operations are compared with an operation.
use Rattle.std.specs.Prelude.{◌≡◌, ℕ, ◌+◌, ◌*◌, ◌%◌, ◌<◌, Bool, true, false, not, ◌&&◌, ◌||◌, List, [], length, map, Option, Some, None, nat_eq, nat_lt, slice_index_or, if◌then◌else◌}
use Rattle.std.specs.List.{flat_map, list_all, list_any}
use Rattle.dt_base.specs.Ranges.{below}
use Rattle.dt_tracker.specs.Tracks.{followers_in}
use Rattle.dt_plan.specs.declared.touches.Buffer.{Buffer}
use Rattle.dt_plan.specs.declared.touches.Buffer.TheVariants.{Home, Scratch, Work}
use Rattle.dt_plan.specs.declared.touches.Touch.{Touch}
use Rattle.dt_plan.specs.Limits.{PlanView}
use Rattle.dt_events.specs.Conflicts.{segment_of}
use Rattle.dt_events.specs.declared.candidates.Candidates.{Candidates}

-- how many buckets there are
abbrev pub bucket_count : ℕ
bucket_count = 8191

-- the bucket of a buffer on a node
abbrev pub bucket_by : ℕ → Buffer → ℕ
bucket_by n (Home t) = (7919 * n + 104729 * t) % 8191
bucket_by n (Scratch k t) = (7919 * n + (104729 * t + 1299709 * (2 * k + 1))) % 8191
bucket_by n (Work k w) = (7919 * n + (104729 * w + 1299709 * (2 * k + 2))) % 8191

-- that of a footprint
abbrev pub bucket_of : Touch → ℕ
bucket_of f = bucket_by f.node f.buffer

-- whether some footprint is in a bucket
abbrev pub in_bucket : List Touch → ℕ → Bool
in_bucket fs h = list_any (λ f. nat_eq (bucket_of f) h) fs

-- whether footprints of both lists are in one bucket
abbrev pub share_bucket : List Touch → List Touch → Bool
share_bucket fs gs = list_any (λ f. in_bucket gs (bucket_of f)) fs

-- the bucket of each footprint of the first n operations, with the operation
abbrev pub bucket_pairs : List (List Touch) → ℕ → List (ℕ × ℕ)
bucket_pairs touches n = flat_map (λ a. map (λ f. (bucket_of f, a)) (slice_index_or touches a [])) (below n)

-- the operations of each bucket
abbrev pub buckets_of : PlanView → List (List ℕ)
buckets_of p = map (followers_in (bucket_pairs p.touches (length p.ops))) (below bucket_count)

-- whether all operations are of one segment
abbrev pub is_one_segment : PlanView → Bool
is_one_segment p = list_all (λ a. nat_eq (segment_of p a) (segment_of p 0)) (below (length p.ops))

-- the buckets are those of the plan, and so is whether it has one segment
abbrev pub AreCandidates : PlanView → Candidates → Type 0
AreCandidates p c = (c.buckets.items ≡ buckets_of p) × (c.is_one_segment ≡ is_one_segment p)

-- an operation is compared with those that share a bucket with it, and with all where there are more segments
abbrev pub is_candidate : PlanView → ℕ → ℕ → Bool
is_candidate p a b = nat_lt b (length p.ops) && (not (is_one_segment p) || share_bucket (slice_index_or p.touches a []) (slice_index_or p.touches b []))

-- the least number above m that passes a test, none where none does
abbrev pub IsNext : (ℕ → Bool) → ℕ → Option ℕ → Type 0
IsNext test m None = (x : ℕ) → m < x → test x ≡ false
IsNext test m (Some b) = (m < b) × (test b ≡ true) × ((x : ℕ) → m < x → x < b → test x ≡ false)

-- the lesser of two numbers, where there are any
abbrev pub sooner : Option ℕ → Option ℕ → Option ℕ
sooner None b = b
sooner (Some a) None = Some a
sooner (Some a) (Some b) = Some (if nat_lt a b then a else b)
