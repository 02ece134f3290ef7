use Rattle.std.proofs.Common.{length, w64, refl, ap, ◌∙◌}
use Rattle.std.specs.Int.{from_le_bytes}
use Rattle.gossip.proofs.Arrays.{front_filled}
use Rattle.gossip.proofs.LittleEndian.{from_le_bytes_padded}
use Rattle.gossip.proofs.numbers.read_le.Goals as goal

pub returns : goal.returns
returns c =
    let b = c.args.src.now in
    c.from_le_bytes.ensures ∙ ap (from_le_bytes w64) (front_filled 8 (length b) b _ refl c.requires c.copy_from_slice.ensures.after) ∙ from_le_bytes_padded b c.requires
