use Rattle.std.proofs.Common.{List, ℕ, ◌++◌, ◌∷◌, [], sym, subst}
use Rattle.sha2.specs.Hashers.{Holds256}
use Rattle.sha2.specs.declared.Sha256.{Sha256}
use Rattle.zk_path.specs.Paths.{joined}
use Rattle.path_seal.proofs.Forms.{iv_is}
use Rattle.path_seal.proofs.under.NamesUnder.iv_of.Goals as goal

pub returns : goal.returns
returns c k p h =
    let held = subst (λ (s : Sha256). Holds256 s (k.salt ++ (joined p ++ 47 ∷ []))) (sym c.copied-hasher.ensures) h.hashed in
    iv_is k p c.args.name.now _ _ (c.finalize-digest.ensures _ (c.update.ensures _ held)) c.copy_from_slice.ensures.after
