use Rattle.std.proofs.Common.{◌≡◌, ℕ, List, Option, IfSome, [], ◌∷◌, length, sym, ◌∙◌, ap, ap₂, subst}
use Rattle.dt_level.specs.Segments.{are_parts, segments}
use Rattle.dt_tensor.proofs.OneParent.{one_parent, one_segment}
use Rattle.dt_tensor.proofs.packing.level_of.Goals as goal

pub unwrap-requires : goal.unwrap-requires
unwrap-requires c =
    let count = ap length c.as_slice.ensures.value in
    c.from_parts.ensures.exact ∙ ap₂ (λ (p q : List ℕ). are_parts p q) (c.in_ok-pos.ensures ∙ ap (λ (n : ℕ). 0 ∷ n ∷ []) count) c.from_vec.ensures ∙ one_parent c.args.fronts.items c.requires.ascending

pub returns : goal.returns
returns c =
    let count = ap length c.as_slice.ensures.value in
    subst (λ (r : Option (List (List ℕ))). IfSome r (λ level. level ≡ segments c.in_ok-pos.pos c.from_vec.result)) c.unwrap.ensures c.from_parts.ensures.level
    ∙ ap₂ (λ (p q : List ℕ). segments p q) (c.in_ok-pos.ensures ∙ ap (λ (n : ℕ). 0 ∷ n ∷ []) count) c.from_vec.ensures ∙ one_segment c.args.fronts.items
