-- What stands in front of bytes.
use Rattle.std.proofs.Common.{◌≡◌, ◌⊎◌, ℕ, ℤ, pos, ◌<◌, ◌≤◌, ◌<ℤ◌, List, ◌++◌, length, sym, ap, ◌∙◌, arith, length-append}
use Rattle.jute_core.specs.Frames.{IsRest, frame}
use Rattle.jute_core.specs.Jute.{int_bytes, IsInt}
use Rattle.zk_frame.proofs.Prefixes.{same_int, length_of_int, frame_cut, frame_length, int_of_frame, not_beyond}
use Rattle.zk_messages.specs.Sent.{client_limit, HasNoFrame}
use Rattle.replay_cli.specs.Show.{IsCutShort}

-- fewer bytes than a length has begin with no frame
pub short_is_rest : (bytes : List ℕ) → length bytes < 4 → IsRest bytes
short_is_rest bytes short = λ body more fits e. let l = frame_length body in omega (arith, l, ap length e, length-append (frame body) more)

-- nor do those that name a negative length
pub negative_is_rest : (bytes prefix rest : List ℕ) (z : ℤ) → bytes ≡ prefix ++ rest → IsInt z prefix → (z <ℤ pos 0) ⊎ (pos 2147483647 <ℤ z) → IsRest bytes
negative_is_rest bytes prefix rest z cut is beyond = λ body more fits whole.
    let r = int_of_frame z prefix rest body more is fits (sym cut ∙ whole) in
    not_beyond z (length body) 2147483647 r.0 (omega (arith, fits)) beyond

-- nor those that name more than there are
pub part_is_rest : (bytes prefix rest : List ℕ) (n : ℕ) → bytes ≡ prefix ++ rest → IsInt (pos n) prefix → length rest < n → IsRest bytes
part_is_rest bytes prefix rest n cut is less = λ body more fits whole.
    let r = int_of_frame (pos n) prefix rest body more is fits (sym cut ∙ whole) in
    let number : pos n ≡ pos (length body) = r.0 in
    let same : n ≡ length body = cc in
    omega (arith, less, same, ap length r.1, length-append body more)

rest_no_frame : (bytes : List ℕ) → IsRest bytes → HasNoFrame bytes
unfolding HasNoFrame
rest_no_frame bytes rest = λ body more short whole. rest body more (omega (arith, short)) whole

-- fewer bytes than a length has
pub short_is_cut : (bytes : List ℕ) → 0 < length bytes → length bytes < 4 → IsCutShort bytes
short_is_cut bytes some short = record {
  some = λ e. omega (arith, some, ap length e);
  not_whole = rest_no_frame bytes (short_is_rest bytes short);
  within = λ size long. omega (arith, short, length_of_int size long.prefix long.named, ap length long.begins, length-append long.prefix long.more);
}

-- a length within the limit, and fewer bytes behind it
pub part_is_cut : (bytes prefix rest : List ℕ) (n : ℕ) → bytes ≡ prefix ++ rest → IsInt (pos n) prefix → n ≤ client_limit → length rest < n → IsCutShort bytes
part_is_cut bytes prefix rest n cut is small less = record {
  some = λ none. omega (arith, length_of_int (pos n) prefix is, ap length (sym cut ∙ none), length-append prefix rest);
  not_whole = rest_no_frame bytes (part_is_rest bytes prefix rest n cut is less);
  within = λ size long.
      let r = same_int (pos n) size prefix long.prefix rest long.more is long.named (sym cut ∙ long.begins) in
      not_beyond size n client_limit (sym r.0) small long.beyond;
}

-- a length, and so many bytes
pub whole_is_frame : (bytes prefix rest body more : List ℕ) (n : ℕ) → bytes ≡ prefix ++ rest → IsInt (pos n) prefix → length body ≡ n → rest ≡ body ++ more → bytes ≡ frame body ++ more
whole_is_frame bytes prefix rest body more n cut is size tail =
    cut ∙ ap (λ (l : List ℕ). l ++ rest) (is.1 ∙ ap (λ (k : ℕ). int_bytes (pos k)) (sym size))
    ∙ ap (λ (l : List ℕ). int_bytes (pos (length body)) ++ l) tail ∙ sym (frame_cut body more)
