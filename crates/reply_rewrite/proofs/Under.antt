-- Names under one path.
use Rattle.std.proofs.Common.{◌≤◌, ◌^◌, ℕ, List, length, Option, Some, None, arith}
use Rattle.std.specs.Prelude.{IfSome, IfNone}
use Rattle.zk_path.specs.Paths.{text_of}
use Rattle.path_seal.specs.Sealed.{Keys, OpensName}
use Rattle.path_seal.specs.Under.{IsUnder, IsUnderOne}
use Rattle.path_seal.specs.declared.under.NamesUnder.{NamesUnder}

pub under_one : (k : Keys) (path : List (List ℕ)) (u : NamesUnder) → IsUnder k path u → length (text_of path) ≤ 2 ^ 27 → IsUnderOne k u
under_one k path u h short = record { path = path; under = h; short = omega (arith, short) }

pub some_under : (k : Keys) (path : List (List ℕ)) (u : NamesUnder) (text : List ℕ) (found : Option (List ℕ)) → IsUnder k path u → IfSome found (λ name. (p : List (List ℕ)) → IsUnder k p u → OpensName k p text name) → IfSome found (OpensName k path text)
some_under k path u text None h x = tt
some_under k path u text (Some name) h x = x path h

pub none_under : (k : Keys) (path : List (List ℕ)) (u : NamesUnder) (text : List ℕ) (found : Option (List ℕ)) → IsUnder k path u → IfNone found ((p : List (List ℕ)) (n : List ℕ) → IsUnder k p u → OpensName k p text n → ⊥) → IfNone found ((n : List ℕ) → OpensName k path text n → ⊥)
none_under k path u text None h x = λ n o. x path n h o
none_under k path u text (Some name) h x = tt

pub ruleset unders = (under_one, some_under, none_under)
