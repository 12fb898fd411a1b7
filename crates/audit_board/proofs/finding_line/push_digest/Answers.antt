use Rattle.std.proofs.Common.{◌≡◌, rules}
use Rattle.hex.specs.Hex.{encode_lower}
use Rattle.audit_board.proofs.LineLemmas.{hex_is_ascii}
use Rattle.audit_board.proofs.finding_line.push_digest.Goals as goal

pub ascii-requires : goal.ascii-requires
ascii-requires c =
    let digits : c.encode_to_slice.new.output ≡ encode_lower c.args.digest.now = search rules in
    hex_is_ascii _ _ digits
