use Rattle.std.proofs.Common.{◌≡◌, ◌≤◌, ◌∙◌, ℕ, List, All, None, length, map, ap, sym, subst}
use Rattle.std.specs.List.{flat_map}
use Rattle.dt_model.specs.Stmts.{IsStmt, AreUsed, AreEven}
use Rattle.dt_model.specs.declared.stmt.Stmt.{Stmt}
use Rattle.dt_index.specs.Known.{shapes_of_known}
use Rattle.dt_index.specs.Resolve.{IsSmall, access_occurrences, accesses_of, distinct, extent_clash, lhs_repeats, named_extents, occurrences, output_read, stmt_by, stmt_of, uneven_reduction, unknown_tensor, variables_of, wrong_order}
use Rattle.dt_index.specs.declared.form.Form.{Form}
use Rattle.dt_index.specs.declared.form.NamedAccess.{NamedAccess}
use Rattle.dt_index.specs.declared.occurrence_list.Occurrence.{Occurrence}
use Rattle.dt_index.proofs.LawfulStmt.{lawful_stmt, none_left}
use Rattle.dt_index.proofs.LeftTensor.{dense_left, unread_left}
use Rattle.dt_index.proofs.NameFacts.{distinct-IsDistinct}
use Rattle.dt_index.proofs.UsedFacts.{used_stmt, even_stmt, extents_named, small_stmt}
use Rattle.dt_index.proofs.resolving.resolve.Goals as goal

pub returns-clause-lawful : goal.returns-clause-lawful
returns-clause-lawful g c =
    let tensors = g.L.Lookup.tensors c.args.names.now in
    let f : Form = c.args.form.now in
    let accesses : List NamedAccess = map (λ a. a.now) c.in_ok-accesses.accesses.items in
    let all : accesses ≡ accesses_of f = c.in_ok-accesses.ensures in
    let variables : c.in_ok-variables.variables ≡ variables_of f = c.in_ok-variables.ensures ∙ ap (λ s. distinct (flat_map (λ a. a.vars) (map (λ a. a.now) s))) c.as_slice-5.ensures.value ∙ ap (λ (xs : List NamedAccess). distinct (flat_map (λ a. a.vars) xs)) all in
    let standing : c.in_ok-occurrences.occurrences ≡ occurrences tensors f = c.in_ok-occurrences.ensures.value ∙ ap (λ s. flat_map (access_occurrences tensors) (map (λ a. a.now) s)) c.as_slice-6.ensures.value ∙ ap (λ (xs : List NamedAccess). flat_map (access_occurrences tensors) xs) all in
    let same : c.in_ok-stmt.stmt ≡ stmt_of tensors f =
    c.in_ok-stmt.ensures ∙ ap (λ (vs : List (List ℕ)). stmt_by tensors vs c.as_slice-12.result.now f) (c.as_slice-11.ensures ∙ variables)
    ∙ ap (λ (os : List Occurrence). stmt_by tensors (variables_of f) os f) (c.as_slice-12.ensures ∙ standing) in
    let unknown : unknown_tensor tensors f ≡ None = none_left c.unknown_tensor.result (unknown_tensor tensors f) c.unknown_tensor.ensures c.in_default.not-Some in
    let wrong : wrong_order tensors f ≡ None = none_left c.wrong_order.result (wrong_order tensors f) c.wrong_order.ensures c.in_default-wrong_order.not-Some in
    let repeats : lhs_repeats f ≡ None = none_left c.lhs_repeats.result (lhs_repeats f) c.lhs_repeats.ensures c.in_default-lhs_repeats.not-Some in
    let clash : extent_clash (occurrences tensors f) (variables_of f) ≡ None =
    ap (λ (os : List Occurrence). extent_clash os (variables_of f)) (sym (c.as_slice-7.ensures ∙ standing)) ∙ ap (λ (vs : List (List ℕ)). extent_clash c.as_slice-7.result.now vs) (sym (c.as_slice-8.ensures ∙ variables))
    ∙ none_left c.in_ok-cause.field-0 (extent_clash c.as_slice-7.result.now c.as_slice-8.result.now) c.in_ok-cause.ensures c.in_default-2.not-Some in
    let few : length (variables_of f) ≤ 8 = subst (λ (vs : List (List ℕ)). length vs ≤ 8) (c.as_slice-10.ensures ∙ variables) c.if-as_slice-gt-MOST_VARIABLES.false in
    let small : All (λ a. length (named_extents tensors a.tensor) ≤ 4) (accesses_of f) =
    subst (λ (xs : List NamedAccess). All (λ a. length (named_extents tensors a.tensor) ≤ 4) xs) (ap (λ s. map (λ a. a.now) s) c.as_slice-6.ensures.value ∙ all) c.in_ok-occurrences.ensures.few in
    subst (λ (s : Stmt). IsStmt (shapes_of_known tensors) s) (sym same) (lawful_stmt tensors f unknown wrong repeats clash few small)

pub returns-clause-used : goal.returns-clause-used
returns-clause-used g c =
    let tensors = g.L.Lookup.tensors c.args.names.now in
    let f : Form = c.args.form.now in
    let accesses : List NamedAccess = map (λ a. a.now) c.in_ok-accesses.accesses.items in
    let all : accesses ≡ accesses_of f = c.in_ok-accesses.ensures in
    let variables : c.in_ok-variables.variables ≡ variables_of f = c.in_ok-variables.ensures ∙ ap (λ s. distinct (flat_map (λ a. a.vars) (map (λ a. a.now) s))) c.as_slice-5.ensures.value ∙ ap (λ (xs : List NamedAccess). distinct (flat_map (λ a. a.vars) xs)) all in
    let standing : c.in_ok-occurrences.occurrences ≡ occurrences tensors f = c.in_ok-occurrences.ensures.value ∙ ap (λ s. flat_map (access_occurrences tensors) (map (λ a. a.now) s)) c.as_slice-6.ensures.value ∙ ap (λ (xs : List NamedAccess). flat_map (access_occurrences tensors) xs) all in
    let same : c.in_ok-stmt.stmt ≡ stmt_of tensors f =
    c.in_ok-stmt.ensures ∙ ap (λ (vs : List (List ℕ)). stmt_by tensors vs c.as_slice-12.result.now f) (c.as_slice-11.ensures ∙ variables)
    ∙ ap (λ (os : List Occurrence). stmt_by tensors (variables_of f) os f) (c.as_slice-12.ensures ∙ standing) in
    subst (λ (s : Stmt). AreUsed s) (sym same) (used_stmt tensors f)

pub returns-clause-even : goal.returns-clause-even
returns-clause-even g c =
    let tensors = g.L.Lookup.tensors c.args.names.now in
    let f : Form = c.args.form.now in
    let accesses : List NamedAccess = map (λ a. a.now) c.in_ok-accesses.accesses.items in
    let all : accesses ≡ accesses_of f = c.in_ok-accesses.ensures in
    let variables : c.in_ok-variables.variables ≡ variables_of f = c.in_ok-variables.ensures ∙ ap (λ s. distinct (flat_map (λ a. a.vars) (map (λ a. a.now) s))) c.as_slice-5.ensures.value ∙ ap (λ (xs : List NamedAccess). distinct (flat_map (λ a. a.vars) xs)) all in
    let standing : c.in_ok-occurrences.occurrences ≡ occurrences tensors f = c.in_ok-occurrences.ensures.value ∙ ap (λ s. flat_map (access_occurrences tensors) (map (λ a. a.now) s)) c.as_slice-6.ensures.value ∙ ap (λ (xs : List NamedAccess). flat_map (access_occurrences tensors) xs) all in
    let same : c.in_ok-stmt.stmt ≡ stmt_of tensors f =
    c.in_ok-stmt.ensures ∙ ap (λ (vs : List (List ℕ)). stmt_by tensors vs c.as_slice-12.result.now f) (c.as_slice-11.ensures ∙ variables)
    ∙ ap (λ (os : List Occurrence). stmt_by tensors (variables_of f) os f) (c.as_slice-12.ensures ∙ standing) in
    let repeats : lhs_repeats f ≡ None = none_left c.lhs_repeats.result (lhs_repeats f) c.lhs_repeats.ensures c.in_default-lhs_repeats.not-Some in
    let even : uneven_reduction f (variables_of f) ≡ None =
    ap (λ (vs : List (List ℕ)). uneven_reduction f vs) (sym (c.as_slice-9.ensures ∙ variables)) ∙ none_left c.in_ok-cause-2.field-0 (uneven_reduction f c.as_slice-9.result.now) c.in_ok-cause-2.ensures c.in_default-3.not-Some in
    subst (λ (s : Stmt). AreEven s) (sym same) (even_stmt tensors f repeats even)

pub returns-clause-small : goal.returns-clause-small
returns-clause-small g c =
    let tensors = g.L.Lookup.tensors c.args.names.now in
    let f : Form = c.args.form.now in
    let accesses : List NamedAccess = map (λ a. a.now) c.in_ok-accesses.accesses.items in
    let all : accesses ≡ accesses_of f = c.in_ok-accesses.ensures in
    let variables : c.in_ok-variables.variables ≡ variables_of f = c.in_ok-variables.ensures ∙ ap (λ s. distinct (flat_map (λ a. a.vars) (map (λ a. a.now) s))) c.as_slice-5.ensures.value ∙ ap (λ (xs : List NamedAccess). distinct (flat_map (λ a. a.vars) xs)) all in
    let standing : c.in_ok-occurrences.occurrences ≡ occurrences tensors f = c.in_ok-occurrences.ensures.value ∙ ap (λ s. flat_map (access_occurrences tensors) (map (λ a. a.now) s)) c.as_slice-6.ensures.value ∙ ap (λ (xs : List NamedAccess). flat_map (access_occurrences tensors) xs) all in
    let same : c.in_ok-stmt.stmt ≡ stmt_of tensors f =
    c.in_ok-stmt.ensures ∙ ap (λ (vs : List (List ℕ)). stmt_by tensors vs c.as_slice-12.result.now f) (c.as_slice-11.ensures ∙ variables)
    ∙ ap (λ (os : List Occurrence). stmt_by tensors (variables_of f) os f) (c.as_slice-12.ensures ∙ standing) in
    subst (λ (s : Stmt). IsSmall s) (sym same) (small_stmt tensors f (sym c.has_few_terms.ensures ∙ c.if-not-has_few_terms.false))

pub returns-clause-named : goal.returns-clause-named
returns-clause-named g c =
    let tensors = g.L.Lookup.tensors c.args.names.now in
    let named : length c.as_slice-11.result.now ≡ length c.in_ok-stmt.stmt.extents = extents_named tensors c.as_slice-11.result.now c.as_slice-12.result.now c.args.form.now c.in_ok-stmt.stmt c.in_ok-stmt.ensures in
    subst (λ (vs : List (List ℕ)). length vs ≡ length c.in_ok-stmt.stmt.extents) c.as_slice-11.ensures named

pub returns-clause-differ : goal.returns-clause-differ
returns-clause-differ g c = distinct-IsDistinct (flat_map (λ a. a.vars) (map (λ a. a.now) c.as_slice-5.result.now)) c.in_ok-variables.variables c.in_ok-variables.ensures

pub returns-clause-dense : goal.returns-clause-dense
returns-clause-dense g c =
    let tensors = g.L.Lookup.tensors c.args.names.now in
    dense_left tensors c.as_slice-11.result.now c.as_slice-12.result.now c.args.form.now c.in_ok-stmt.stmt c.in_ok-stmt.ensures (sym c.has_dense_output.ensures ∙ c.if-not-has_dense_output.false)

pub returns-clause-unread : goal.returns-clause-unread
returns-clause-unread g c =
    let tensors = g.L.Lookup.tensors c.args.names.now in
    let f : Form = c.args.form.now in
    let unknown : unknown_tensor tensors f ≡ None = none_left c.unknown_tensor.result (unknown_tensor tensors f) c.unknown_tensor.ensures c.in_default.not-Some in
    let read : output_read f ≡ None = none_left c.output_read.result (output_read f) c.output_read.ensures c.in_default-output_read.not-Some in
    unread_left tensors c.as_slice-11.result.now c.as_slice-12.result.now f c.in_ok-stmt.stmt c.in_ok-stmt.ensures unknown read
