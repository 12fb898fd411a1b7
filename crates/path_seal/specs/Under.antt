-- What is kept of a path to seal and open the names under it.
use Rattle.std.specs.Prelude.{◌≡◌, ℕ, ◌^◌, ◌≤◌, List, [], ◌∷◌, ◌++◌, length}
use Rattle.sha2.specs.Hashers.{Holds256}
use Rattle.gcm_mode.specs.Absorbed.{IsAbsorbed}
use Rattle.zk_path.specs.Paths.{joined, text_of}
use Rattle.path_seal.specs.Sealed.{Keys}
use Rattle.path_seal.specs.declared.under.NamesUnder.{NamesUnder}

-- under the keys k, u stands for the path p: hashed is what comes before a name in what its IV is the hash of, and
-- absorbed the text of the path, and the text of each path under it as far as the name
pub record IsUnder (k : Keys) (p : List (List ℕ)) (u : NamesUnder) : Type 0 where
  pub hashed : Holds256 u.hashed (k.salt ++ (joined p ++ 47 ∷ []))
  pub text : IsAbsorbed k.key u.text (text_of p)
  pub ahead : IsAbsorbed k.key u.ahead (joined p ++ 47 ∷ [])

-- it stands for a path whose text has at most 268,435,456 bytes
pub record IsUnderOne (k : Keys) (u : NamesUnder) : Type 0 where
  pub path : List (List ℕ)
  pub under : IsUnder k path u
  pub short : length (text_of path) ≤ 2 ^ 28
