use Rattle.std.proofs.lemmas.Result.{on_ok_weaker, on_err_weaker}
use Rattle.dt_base.proofs.Fronts.{front_shorter}
use Rattle.dt_base.proofs.Joins.{joined}
use Rattle.dt_base.proofs.bytes.Bytes.append_joined.Goals as goal

pub returns-in_ok-append_number-in-len1-up-clause-ok : goal.returns-in_ok-append_number-in-len1-up-clause-ok
returns-in_ok-append_number-in-len1-up-clause-ok g c =
    on_ok_weaker c.append_each.result
    (λ e. joined c.args.between g.I.Integer.text c.args.numbers.now c.first-item.result c.args.self.now c.append_number.new.self c.append_each.new.self c.in-len1-up.len_at_least c.first-item.is c.in_ok-append_number-in-len1-up.ensures.ok e)
    c.append_each.ensures.ok

pub returns-in_ok-append_number-in-len1-up-clause-err : goal.returns-in_ok-append_number-in-len1-up-clause-err
returns-in_ok-append_number-in-len1-up-clause-err g c =
    on_err_weaker c.append_each.result
    (λ h. front_shorter c.args.self.now (g.I.Integer.text c.first-item.result) c.append_number.new.self c.append_each.new.self c.in_ok-append_number-in-len1-up.ensures.ok h)
    c.append_each.ensures.err
