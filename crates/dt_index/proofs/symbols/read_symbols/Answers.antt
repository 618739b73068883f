use Rattle.dt_index.specs.Symbols.{symbols_of}
use Rattle.dt_index.proofs.SymbolSteps.{read_end, read_more, read_stop}
use Rattle.dt_index.proofs.symbols.read_symbols.Goals as goal

pub returns-in-None : goal.returns-in-None
returns-in-None c = read_end c.loop-symbols.rest.now c.loop-symbols.symbols (symbols_of c.args.text.now) c.in-None.ensures.none c.loop-symbols.invariant

pub returns-in-None-symbol : goal.returns-in-None-symbol
returns-in-None-symbol c = read_stop c.loop-symbols.rest.now c.in-Some.piece.now c.in-Some.behind.now c.loop-symbols.symbols (symbols_of c.args.text.now) c.in-Some.ensures.pieces c.in-None-symbol.ensures c.loop-symbols.invariant

pub loop-symbols-preserved : goal.loop-symbols-preserved
loop-symbols-preserved c =
    read_more c.loop-symbols.rest.now c.in-Some.piece.now c.in-Some.behind.now c.loop-symbols.symbols c.push.new.self c.in-Some-symbol.symbol (symbols_of c.args.text.now)
    c.in-Some.ensures.pieces c.in-Some-symbol.ensures c.in_ok-push-in-Some-symbol.ensures.ok c.loop-symbols.invariant
