use Rattle.std.proofs.Common.{◌+◌, List, ℕ, [], arith, ap, sym, ◌∙◌, append-nil, map, length, subst, All}
use Rattle.std.proofs.lemmas.List.Elements.{All-push}
use Rattle.dt_text.specs.Spans.{IsToken, token_in}
use Rattle.dt_text.specs.declared.token_list.Token.{Token}
use Rattle.dt_text.proofs.PartLemmas.{part_next, part_end, part_last, part_more}
use Rattle.dt_text.proofs.token_parts.parts_at.Goals as goal

pub returns-then-to-token-clause-parts : goal.returns-then-to-token-clause-parts
returns-then-to-token-clause-parts c =
    let to : ℕ = c.loop-items.from + c.part_len.result in
    ap (λ (ts : List Token). map (token_in c.args.token.now) ts) c.from_vec.ensures ∙ sym (append-nil (map (token_in c.args.token.now) c.push.new.self.items))
    ∙ part_more c.args.token.now c.args.separator c.loop-items.items.items c.push.new.self.items (record { from = c.loop-items.from; to = to }) [] _ c.in_ok-push.ensures.items
    (part_last c.args.token.now c.args.separator c.loop-items.from to c.loop-items.invariant.within (part_end c.args.token.now c.args.separator c.loop-items.from c.part_len.result c.loop-items.invariant.within c.part_len.ensures.place) c.if-to-token.true) c.loop-items.invariant.same

pub loop-items-preserved : goal.loop-items-preserved
loop-items-preserved c =
    let to : ℕ = c.loop-items.from + c.part_len.result in
    let t : Token = record { from = c.loop-items.from; to = to } in
    record {
      within = omega (arith, c.part_len.ensures.within, c.if-to-token.false);
      tokens = (let P : List Token → Type 0 = λ ts. All (IsToken (length c.args.token.now)) ts in subst P (sym c.in_ok-push.ensures.items) (All-push (IsToken (length c.args.token.now)) c.loop-items.items.items t c.loop-items.invariant.tokens (omega arith, omega (arith, c.part_len.ensures.within))));
      same = part_more c.args.token.now c.args.separator c.loop-items.items.items c.push.new.self.items t _ _ c.in_ok-push.ensures.items
          (part_next c.args.token.now c.args.separator c.loop-items.from to (part_end c.args.token.now c.args.separator c.loop-items.from c.part_len.result c.loop-items.invariant.within c.part_len.ensures.place) (omega (arith, c.part_len.ensures.within, c.if-to-token.false))) c.loop-items.invariant.same;
    }
