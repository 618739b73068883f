use Rattle.std.proofs.Common.{arith}
use Rattle.std.proofs.lemmas.Grind.{common_steps}
use Rattle.dt_index.proofs.Pieces.{no_pieces, piece_there}
use Rattle.dt_index.proofs.symbols.next_piece.Goals as goal

pub returns-then-is_empty-clause-none : goal.returns-then-is_empty-clause-none
returns-then-is_empty-clause-none c = no_pieces c.args.text.now c.behind_blanks-rest.result.now c.behind_blanks-rest.ensures.bytes (grind (arith, common_steps))

pub returns-clause-pieces : goal.returns-clause-pieces
returns-clause-pieces c = piece_there c.args.text.now c.behind_blanks-rest.result.now c.split_at.result.0.now c.split_at.result.1.now c.piece_len.result c.behind_blanks-rest.ensures.bytes (omega arith) c.piece_len.ensures.value c.split_at.ensures.front c.split_at.ensures.back
