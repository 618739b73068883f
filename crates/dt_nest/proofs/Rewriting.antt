-- What a command makes of a lawful schedule is lawful.
use Rattle.std.proofs.Common.{◌≡◌, ◌<◌, ◌^◌, None, length, sym, ap, ◌∙◌, subst}
use Rattle.dt_nest.specs.Schedule.{Schedule}
use Rattle.dt_nest.specs.Lawful.{IsLawful}
use Rattle.dt_nest.specs.Commands.{Keeps, Rule}

-- where no cause is against the command, and the names have numbers
pub lawful_after : (r : Rule) → ((s : Schedule) → IsLawful s → r.can s → r.cause s ≡ None → Keeps r s)
    → (sched first second made : Schedule) → IsLawful sched → r.can sched → first ≡ sched → None ≡ r.cause first → second ≡ sched → made ≡ r.effect second → length made.names < 2 ^ 32 → IsLawful made
lawful_after r keeps sched first second made l can f none e m few =
    let same : made ≡ r.effect sched = m ∙ ap r.effect e in
    let owed : Keeps r sched = keeps sched l can (sym (none ∙ ap r.cause f)) in
    subst (λ (s : Schedule). IsLawful s) (sym same) (owed.lawful (subst (λ (s : Schedule). length s.names < 2 ^ 32) same few))
