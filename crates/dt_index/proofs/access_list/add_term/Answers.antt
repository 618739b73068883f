use Rattle.std.proofs.Common.{◌≡◌, ◌∙◌, ◌∷◌, [], List, map, sym, ap, length, subst, get_or, ◌<◌}
use Rattle.std.specs.List.{filter_map}
use Rattle.std.proofs.lemmas.List.{map-append, append-nil}
use Rattle.dt_index.specs.Resolve.{access_in}
use Rattle.dt_index.specs.declared.form.NamedAccess.{NamedAccess}
use Rattle.dt_index.specs.declared.form.NamedFactor.{NamedFactor}
use Rattle.dt_index.proofs.RefFacts.{chosen_next}
use Rattle.dt_index.proofs.access_list.add_term.Goals as goal
use Rattle.dt_index.proofs.access_list.add_term.Goals.{in-Read+in_ok-push-in-Read, in-Literal}

pub loop-factor-preserved : goal.loop-factor-preserved
loop-factor-preserved c =
    let front : List NamedAccess = map (λ a. a.now) c.args.accesses.now.items in
    let old : List NamedAccess = map (λ a. a.now) c.loop-factor.accesses.items in
    let xs : List NamedFactor = c.args.term.now.factors in
    let inside : c.loop-factor.factor-index < length xs = subst (λ (ys : List NamedFactor). c.loop-factor.factor-index < length ys) c.as_slice-factor-items.ensures c.loop-factor-test.true in
    let item : c.factor-item.result ≡ get_or xs c.loop-factor.factor-index c.factor-item.result = subst (λ (ys : List NamedFactor). c.factor-item.result ≡ get_or ys c.loop-factor.factor-index c.factor-item.result) c.as_slice-factor-items.ensures c.factor-item.is in
    elim c.match-factor.branch [
      | in-Read+in_ok-push-in-Read w ↦
          chosen_next access_in front xs c.loop-factor.factor-index c.factor-item.result old (map (λ a. a.now) c.match-factor.accesses.items) (w.in-Read.access ∷ []) inside item c.loop-factor.invariant
          (ap (λ v. map (λ a. a.now) v.items) w.accesses-is ∙ ap (λ is. map (λ a. a.now) is) w.in_ok-push-in-Read.ensures.items ∙ map-append (λ a. a.now) c.loop-factor.accesses.items _)
          (ap (λ (f : NamedFactor). filter_map access_in (f ∷ [])) w.in-Read.is)
      | in-Literal w ↦
          chosen_next access_in front xs c.loop-factor.factor-index c.factor-item.result old (map (λ a. a.now) c.match-factor.accesses.items) [] inside item c.loop-factor.invariant
          (ap (λ v. map (λ a. a.now) v.items) w.accesses-is ∙ sym (append-nil old))
          (ap (λ (f : NamedFactor). filter_map access_in (f ∷ [])) w.in-Literal.is)
    ]
