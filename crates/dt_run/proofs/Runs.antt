-- What a run writes, put together.
use Rattle.std.proofs.Common.{◌≡◌, ℕ, List, ◌++◌, refl}
use Rattle.std.specs.List.{flat_map}
use Rattle.dt_tensor.specs.Packed.{Packed}
use Rattle.dt_job.specs.declared.outputs.Show.{Show}
use Rattle.dt_run.specs.Outcome.{show_text}

-- the same outputs behind the same front
pub same_run : (front front' : List ℕ) (names names' : List (List ℕ)) (ts ts' : List Packed) (shows shows' : List Show) → front ≡ front' → names ≡ names' → ts ≡ ts' → shows ≡ shows'
    → front ++ flat_map (show_text names ts) shows ≡ front' ++ flat_map (show_text names' ts') shows'
same_run front front' names names' ts ts' shows shows' e f g h = rw (e, f, g, h) refl
