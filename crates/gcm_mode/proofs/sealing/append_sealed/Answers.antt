use Rattle.std.proofs.Common.{◌≡◌, length, vec_len, ap, rules, arith}
use Rattle.std.proofs.lemmas.List.{length-append, length-take, length-drop}
use Rattle.gcm_mode.proofs.Counting.{length-text_under}
use Rattle.gcm_mode.proofs.sealing.append_sealed.Goals as goal

pub tag_of-tag-requires-clause-text : goal.tag_of-tag-requires-clause-text
tag_of-tag-requires-clause-text c =
    let before : length c.reserve.new.self.items ≡ c.len-start.result = search rules in
    let one = simp (length-append) at (ap length c.push_piece.ensures.items) in
    let two = simp (length-append) at (ap length c.push_piece-2.ensures.items) in
    let covered = simp (length-append, length-take, length-drop, length-text_under) at (ap length c.cover_from.ensures.items) in
    let seen = ap length c.as_slice.ensures.value in
    simp (length-take, length-drop) (omega (arith, before, one, two, covered, seen, c.in_default.ensures.short))

pub push_piece-requires-3 : goal.push_piece-requires-3
push_piece-requires-3 c =
    let before : length c.reserve.new.self.items ≡ vec_len c.reserve.new.self = search rules in
    let after : length c.cover_from.new.into.items ≡ vec_len c.cover_from.new.into = search rules in
    let start : length c.reserve.new.self.items ≡ c.len-start.result = search rules in
    let one = simp (length-append) at (ap length c.push_piece.ensures.items) in
    let two = simp (length-append) at (ap length c.push_piece-2.ensures.items) in
    let covered = simp (length-append, length-take, length-drop, length-text_under) at (ap length c.cover_from.ensures.items) in
    let tag : length c.tag_of-tag.result ≡ 16 = search rules in
    omega (arith, before, after, start, one, two, covered, tag, c.in_ok-reserve.ensures.ok, c.push_piece.ensures.capacity, c.push_piece-2.ensures.capacity, c.cover_from.ensures.capacity)
