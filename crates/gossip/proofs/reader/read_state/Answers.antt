use Rattle.std.proofs.Common.{◌≡◌, sym, ◌∙◌, rules}
use Rattle.gossip.proofs.Reading.{timestamp_rest, state_value, state_tombstone, state_none}
use Rattle.gossip.proofs.reader.read_state.Goals as goal

pub returns-in-1 : goal.returns-in-1
returns-in-1 g c =
    c.read_value.ensures
    ∙ state_value _ c.args.n c.args.top.now c.args.entry.now c.read_le-word.ensures (c.from_bytes-timestamp.ensures ∙ timestamp_rest 20 c.args.n c.args.entry.now)
    (sym c.u32_at.ensures ∙ c.in-1.is)

pub returns-in-2 : goal.returns-in-2
returns-in-2 g c =
    c.read_tombstone.ensures
    ∙ state_tombstone _ c.args.n c.args.top.now c.args.entry.now c.read_le-word.ensures (c.from_bytes-timestamp.ensures ∙ timestamp_rest 20 c.args.n c.args.entry.now)
    (sym c.u32_at.ensures ∙ c.in-2.is)

pub returns-in_default : goal.returns-in_default
returns-in_default g c =
    let a : c.u32_at.result ≡ 1 → ⊥ = search rules in
    let b : c.u32_at.result ≡ 2 → ⊥ = search rules in
    state_none _ c.args.n c.args.top.now c.args.entry.now (λ e. a (c.u32_at.ensures ∙ e)) (λ e. b (c.u32_at.ensures ∙ e))
