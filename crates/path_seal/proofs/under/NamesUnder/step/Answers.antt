use Rattle.std.proofs.Common.{List, ℕ, ◌++◌, ◌∷◌, [], length, arith, length-append}
use Rattle.zk_path.specs.Paths.{joined, text_of}
use Rattle.path_seal.proofs.Forms.{below_hashed, below_text, below_ahead, below_size, below_text_size}
use Rattle.path_seal.proofs.under.NamesUnder.step.Goals as goal

pub returns : goal.returns
returns c p h short =
    let k = c.args.keys.now in
    let name = c.args.name.now in
    let size = below_size p name in
    let text = below_text k.key c.absorb.new.self p name ((rw (c.key.ensures.value, c.as_bytes.ensures.value) at c.absorb.ensures) (joined p ++ 47 ∷ []) h.ahead (omega (arith, short, size, length-append (joined p) (47 ∷ [])))) in
    record {
      hashed = below_hashed _ k.salt p name (c.update-2.ensures _ (c.update.ensures _ h.hashed));
      text = text;
      ahead = below_ahead k.key c.absorb-2.new.self p name ((rw c.key-2.ensures.value at c.absorb-2.ensures) (text_of (name ∷ p)) text (omega (arith, short, below_text_size p name)));
    }
