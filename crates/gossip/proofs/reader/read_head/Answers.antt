use Rattle.std.proofs.Common.{◌≡◌, Ok, sym, ap, ◌∙◌, ap₂, arith}
use Rattle.gossip.specs.Format.{decode_head, message_length}
use Rattle.gossip.specs.Messages.{origin}
use Rattle.gossip.specs.Numbers.{field}
use Rattle.gossip.specs.declared.head.Head.{Head}
use Rattle.gossip.proofs.FormatTheorems.{head-sound}
use Rattle.gossip.proofs.Reading.{short, misformed, other_kind, no_origin, mislaid, too_late, head_read, laid_out_is, laid_count, laid_length, head_at_lem, field-rest, timestamp_rest}
use Rattle.gossip.proofs.reader.read_head.Goals as goal

pub returns-then-bytes-lt-FRONT : goal.returns-then-bytes-lt-FRONT
returns-then-bytes-lt-FRONT g c = record { answer = short _ _ c.if-bytes-lt-FRONT.true; few = tt; long = tt; sound = tt }

pub returns-then-form-ne-FORM : goal.returns-then-form-ne-FORM
returns-then-form-ne-FORM g c = record { answer = misformed _ _ c.if-bytes-lt-FRONT.false c.if-form-ne-FORM.true; few = tt; long = tt; sound = tt }

pub returns-then-kind-number : goal.returns-then-kind-number
returns-then-kind-number g c =
    record { answer = other_kind _ _ c.if-bytes-lt-FRONT.false c.if-form-ne-FORM.false (λ e. c.if-kind-number.true (e ∙ sym c.number.ensures.answer)); few = tt; long = tt; sound = tt }

pub returns-then-not-is_origin : goal.returns-then-not-is_origin
returns-then-not-is_origin g c =
    record {
      answer = no_origin _ _ c.if-bytes-lt-FRONT.false c.if-form-ne-FORM.false
          (sym (ap₂ origin c.from-n.ensures c.from-sender.ensures) ∙ sym c.if-not-is_origin.ensures);
      few = tt;
      long = tt;
      sound = tt;
    }

pub returns-then-not-is_laid_out : goal.returns-then-not-is_laid_out
returns-then-not-is_laid_out g c =
    let b = c.args.bytes.now in
    let f = c.read_fields-fields.ensures in
    let o = sym (ap₂ origin c.from-n.ensures c.from-sender.ensures) ∙ sym c.if-not-is_origin.ensures in
    let l = laid_out_is g.L.Lattice.kind b c.if-not-is_laid_out.ensures c.from-n.ensures f.count f.timestamp_at f.entries_at f.len in
    record { answer = mislaid _ b c.if-bytes-lt-FRONT.false c.if-form-ne-FORM.false (c.if-kind-number.false ∙ c.number.ensures.answer) o l; few = tt; long = tt; sound = tt }

pub returns-then-fields-gt-LATEST : goal.returns-then-fields-gt-LATEST
returns-then-fields-gt-LATEST g c =
    let b = c.args.bytes.now in
    let f = c.read_fields-fields.ensures in
    let o = sym (ap₂ origin c.from-n.ensures c.from-sender.ensures) ∙ sym c.if-not-is_origin.ensures in
    let l = laid_out_is g.L.Lattice.kind b c.if-not-is_laid_out.ensures c.from-n.ensures f.count f.timestamp_at f.entries_at f.len in
    let t = f.clock ∙ field-rest 4 12 8 b in
    record { answer = too_late _ b c.if-bytes-lt-FRONT.false c.if-form-ne-FORM.false (c.if-kind-number.false ∙ c.number.ensures.answer) o l (omega arith); few = tt; long = tt; sound = tt }

pub returns : goal.returns
returns g c =
    let b = c.args.bytes.now in
    let k = g.L.Lattice.kind in
    let f = c.read_fields-fields.ensures in
    let o = sym (ap₂ origin c.from-n.ensures c.from-sender.ensures) ∙ sym c.if-not-is_origin.ensures in
    let l = laid_out_is k b c.if-not-is_laid_out.ensures c.from-n.ensures f.count f.timestamp_at f.entries_at f.len in
    let t = f.clock ∙ field-rest 4 12 8 b in
    let h : Head = record { n = c.from-n.result; sender = c.from-sender.result; group = c.read_fields-fields.result.group; clock = c.read_fields-fields.result.clock; timestamp = c.from_bytes.result } in
    let a : Ok h ≡ decode_head k b
    = ap Ok (head_at_lem b h c.from-n.ensures c.from-sender.ensures (f.group ∙ field-rest 4 0 4 b) t (c.from_bytes.ensures ∙ timestamp_rest 24 _ b))
    ∙ head_read k b c.if-bytes-lt-FRONT.false c.if-form-ne-FORM.false (c.if-kind-number.false ∙ c.number.ensures.answer) o l (omega arith) in
    record {
      answer = a;
      few = laid_count k b l;
      long = laid_length k b l ∙ ap (λ n. message_length n (field 8 2 b)) (sym c.from-n.ensures);
      sound = head-sound k b h (λ i. (c.type_inv.bytes i).fits) (sym a);
    }
