use Rattle.std.proofs.lemmas.Result.{err_from_is_err_and}
use Rattle.gossip.specs.Numbers.{Bytes}
use Rattle.checkpoint.proofs.Reading.{message_refused, message_read, spelled, of_kind_lem}
use Rattle.checkpoint.proofs.checkpoint.Checkpoint.read.Goals as goal

pub returns-in_err-message : goal.returns-in_err-message
returns-in_err-message g c =
    let p = err_from_is_err_and c.from_residual.result c.from_residual.ensures.1 in
    rw (p.1, p.2)
    (record {
      answer = message_refused g.L.Lattice.kind c.args.bytes.now c.front_len.ensures c.split_at.ensures.front c.split_at.ensures.back _ c.in_err-message.ensures.answer;
      spelling = tt;
      kind = tt;
    })

pub returns : goal.returns
returns g c =
    let k = g.L.Lattice.kind in
    let b = c.args.bytes.now in
    let bytes : Bytes b = λ i. (c.type_inv.bytes i).fits in
    let a = message_read k b c.front_len.ensures c.split_at.ensures.front c.split_at.ensures.back c.in_ok-message.message _ c.in_ok-message.ensures.answer c.with_rows.ensures in
    record { answer = a; spelling = spelled k b bytes c.with_rows.result a; kind = of_kind_lem k b bytes c.with_rows.result a }
