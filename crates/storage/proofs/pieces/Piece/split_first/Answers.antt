use Rattle.std.proofs.Common.{◌≡◌, Some, Ok, Err, Result, sym, ap, ◌∙◌, length, arith}
use Rattle.std.specs.Result.{IfOk, result_ok}
use Rattle.storage.proofs.Fronts.{encode_front}
use Rattle.storage.proofs.pieces.Piece.split_first.Goals as goal

-- what holds of an answer's value holds of the value that `ok` takes out of it
ok_value : {T E : Type 0} (P : T → Type 0) (r : Result T E) (x : T) → Some x ≡ result_ok r → IfOk r P → P x
ok_value P (Ok y) x e h = let q : x ≡ y = cc in rw q h
ok_value P (Err f) x e h = absurd (cc)

pub returns-clause-piece : goal.returns-clause-piece
returns-clause-piece c =
    let h = c.in_ok-head.ensures.cases in
    let b = c.in_ok-bytes.ensures.cases in
    let p = ok_value _ c.new.result c.in_ok-piece.piece c.in_ok-piece.ensures.value c.new.ensures.piece in
    encode_front c.args.log.now c.in_ok-head.head.now c.in_ok-head.behind.now c.in_ok-piece.piece.bytes.now c.in_ok-bytes.rest.now c.in_ok-piece.piece.number.value c.from-len.result h.0 h.1 (omega arith) (omega arith) (omega arith) (omega (arith, c.type_inv.log 2)) (omega arith) (ap length p.1 ∙ b.3) (p.1 ∙ b.1) b.2
