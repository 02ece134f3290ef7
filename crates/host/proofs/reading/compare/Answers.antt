use Rattle.std.proofs.Common.{◌≡◌, length, Ok, sym, ap, ◌∙◌}
use Rattle.gossip.specs.Comparing.{compared}
use Rattle.gossip.specs.Timestamps.{exactly, padded}
use Rattle.gossip.specs.declared.refusal.Refusal.TheVariants.{Parts}
use Rattle.gossip.proofs.TimestampSteps.{exact_length}
use Rattle.gossip.proofs.Unless.{unless_ok}
use Rattle.host.proofs.Comparing.{compared-padded}
use Rattle.host.proofs.reading.compare.Goals as goal

pub returns : goal.returns
returns c =
    let s = c.args.first.now in
    let t = c.args.second.now in
    let a = unless_ok (exactly (length s) (length s)) Parts _ c.in_ok-first.first (sym c.in_ok-first.ensures.answer) in
    let b = unless_ok (exactly (length s) (length t)) Parts _ c.in_ok-second.second (sym c.in_ok-second.ensures.answer) in
    let l : length t ≡ length s = exact_length (length s) (length t) b.0 in
    let p : record { parts = padded s } ≡ c.in_ok-first.first = cc a.1 in
    let q : record { parts = padded t } ≡ c.in_ok-second.second = cc b.1 in
    record { answer = rw b.0 (ap Ok (c.partial_cmp.ensures ∙ sym (λ i. compared (p i) (q i)) ∙ compared-padded s t (sym l))) }
