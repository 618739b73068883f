use Rattle.std.proofs.Common.{◌≡◌, ℕ, List, [], ◌∷◌, refl, sym, subst, lit<, lit≤, true}
use Rattle.std.specs.List.{IsDistinct}
use Rattle.std.specs.Str.{bytes_eq}
use Rattle.dt_model.specs.declared.stmt.Term.{Term}
use Rattle.dt_nest.specs.Chain.{IsSchedulable}
use Rattle.dt_visit_tests.proofs.nest_tests.empty_sum.Goals as goal

one_distinct : (name : List ℕ) → IsDistinct bytes_eq (name ∷ [])
unfolding IsDistinct
one_distinct name = (tt, tt)

schedulable : (vars extents : List ℕ) (terms : List Term) (names tensors : List (List ℕ)) → vars ≡ 0 ∷ [] → extents ≡ 2 ∷ [] → terms ≡ [] → names ≡ (105 ∷ []) ∷ [] → tensors ≡ (65 ∷ []) ∷ []
    → IsSchedulable (record { lhs = record { tensor = 0; vars = vars }; adds = true; terms = terms; extents = extents }) names tensors
schedulable vars extents terms names tensors a b c d e =
    subst (λ (v : List ℕ). IsSchedulable (record { lhs = record { tensor = 0; vars = v }; adds = true; terms = terms; extents = extents }) names tensors) (sym a)
    (subst (λ (v : List ℕ). IsSchedulable (record { lhs = record { tensor = 0; vars = 0 ∷ [] }; adds = true; terms = terms; extents = v }) names tensors) (sym b)
    (subst (λ (v : List Term). IsSchedulable (record { lhs = record { tensor = 0; vars = 0 ∷ [] }; adds = true; terms = v; extents = 2 ∷ [] }) names tensors) (sym c)
    (subst (λ (v : List (List ℕ)). IsSchedulable (record { lhs = record { tensor = 0; vars = 0 ∷ [] }; adds = true; terms = []; extents = 2 ∷ [] }) v tensors) (sym d)
    (subst (λ (v : List (List ℕ)). IsSchedulable (record { lhs = record { tensor = 0; vars = 0 ∷ [] }; adds = true; terms = []; extents = 2 ∷ [] }) ((105 ∷ []) ∷ []) v) (sym e)
    (record {
      few = lit≤ tt;
      left = refl;
      accesses = ((lit< tt, lit≤ tt, (lit< tt, tt)), tt);
      named = refl;
      differ = one_distinct (105 ∷ []);
      tensors_differ = one_distinct (65 ∷ []);
      few_tensors = lit< tt;
    })))))

pub of_stmt-requires : goal.of_stmt-requires
of_stmt-requires c = schedulable _ _ _ _ _ c.in_ok-vars.ensures c.in_ok-from_slice.ensures c.new.ensures c.in_ok-variables.ensures c.in_ok-tensors.ensures
