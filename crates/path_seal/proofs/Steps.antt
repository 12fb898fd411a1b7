-- How far a text is opened.
use Rattle.std.proofs.Common.{◌≡◌, ◌≢◌, ℕ, ◌+◌, ◌^◌, ◌<◌, ◌≤◌, List, [], ◌∷◌, ◌++◌, length, refl, sym, ap, ◌∙◌, append_assoc, length-append, arith}
use Rattle.std.specs.Prelude.{All}
use Rattle.std.proofs.lemmas.List.Elements.{All-nil, All-cons, All-head, All-tail}
use Rattle.aes_block.specs.Laws.{IsBytes}
use Rattle.zk_path.specs.Paths.{HasNoSlash, joined}
use Rattle.zk_path.specs.View.{components}
use Rattle.zk_path.proofs.Components.{components-joined, components_grow, joined_begins}
use Rattle.path_seal.specs.Sealed.{Keys, SealName, sealed, SealStem}
use Rattle.path_seal.specs.Under.{IsUnder, IsUnderOne}
use Rattle.path_seal.specs.declared.under.NamesUnder.{NamesUnder}
use Rattle.path_seal.proofs.Texts.{text_short}
use Rattle.path_seal.specs.Names.{IsName, AppendsName, IsSealedOf, IsPlainOf}
use Rattle.path_seal.proofs.NameBytes.{sealed_plain, joined_shorter}
use Rattle.path_seal.proofs.Apart.{sealed_apart, stem_apart}

-- the names before the rest are open
pub record IsOpenedTo (k : Keys) (text rest plain : List ℕ) (u : NamesUnder) : Type 0 where
  pub before : List (List ℕ)
  pub names : All IsName before
  pub spelled : text ≡ joined (sealed k before) ++ 47 ∷ rest
  pub opened : plain ≡ joined before
  pub under : IsUnder k before u

pub open_begins : (k : Keys) (text rest plain : List ℕ) (u : NamesUnder) → text ≡ 47 ∷ rest → plain ≡ [] → IsUnder k [] u → IsOpenedTo k text rest plain u
unfolding joined sealed
open_begins k text rest plain u e none h = record { before = []; names = All-nil IsName; spelled = e; opened = none; under = h }

pub opens_on : {k : Keys} {text rest plain : List ℕ} {u : NamesUnder} (name after more : List ℕ) (v : NamesUnder) (h : IsOpenedTo k text rest plain u) → rest ≡ name ++ 47 ∷ after → AppendsName k h.before name plain more v → IsOpenedTo k text after more v
unfolding joined sealed
opens_on {k} {text} {rest} {plain} {u} name after more v h e a = record {
  before = a.name ∷ h.before;
  names = All-cons IsName a.name h.before a.plain h.names;
  spelled = h.spelled ∙ ap (λ (l : List ℕ). joined (sealed k h.before) ++ 47 ∷ l) (e ∙ ap (λ (l : List ℕ). l ++ 47 ∷ after) (sym a.is_sealed))
      ∙ sym (append_assoc (joined (sealed k h.before)) (47 ∷ SealName k h.before a.name) (47 ∷ after));
  opened = a.added ∙ ap (λ (l : List ℕ). l ++ 47 ∷ a.name) h.opened;
  under = a.stepped;
}

pub open_ends : {k : Keys} {text rest plain : List ℕ} {u : NamesUnder} (more : List ℕ) (v : NamesUnder) (h : IsOpenedTo k text rest plain u) → IsBytes k.key → AppendsName k h.before rest plain more v → IsPlainOf k text more
unfolding joined sealed
open_ends {k} {text} {rest} {plain} {u} more v h key a =
    let parts : List (List ℕ) = a.name ∷ h.before in
    let names : All IsName parts = All-cons IsName a.name h.before a.plain h.names in
    let is : SealStem k parts ≡ text = ap (λ (l : List ℕ). joined (sealed k h.before) ++ 47 ∷ l) a.is_sealed ∙ sym h.spelled in
    record {
      parts = parts;
      whole = record { names = names; filled = λ e. cc; is_sealed = is };
      only = λ p o. stem_apart k p parts key o.names names (o.is_sealed ∙ sym is);
      spelled = a.added ∙ ap (λ (l : List ℕ). l ++ 47 ∷ a.name) h.opened;
    }

-- what is open and what is left are no longer together
pub opened_short : {k : Keys} {text rest plain : List ℕ} {u : NamesUnder} → IsOpenedTo k text rest plain u → length plain + length rest < length text
opened_short {k} {text} {rest} {plain} {u} h =
    omega (arith, ap length h.opened, joined_shorter k h.before, ap length h.spelled, length-append (joined (sealed k h.before)) (47 ∷ rest))

pub opened_one : {k : Keys} {text rest plain : List ℕ} {u : NamesUnder} → IsOpenedTo k text rest plain u → length text ≤ 2 ^ 28 → IsUnderOne k u
opened_one {k} {text} {rest} {plain} {u} h short = record {
  path = h.before;
  under = h.under;
  short = text_short h.before (2 ^ 28) (omega (arith, opened_short h, ap length h.opened)) (omega (arith, opened_short h));
}

pub unrooted : (k : Keys) (text : List ℕ) (p : List (List ℕ)) → ((rest : List ℕ) → text ≢ 47 ∷ rest) → IsSealedOf k text p → ⊥
unfolding sealed
unrooted k text [] none o = o.filled refl
unrooted k text (n ∷ p) none o = let g = joined_begins (SealName k p n) (sealed k p) in none g.0 (sym o.is_sealed ∙ g.1)

-- ---- the next name of whatever is sealed to the text

upper : (k : Keys) (ks q x : List (List ℕ)) → All IsName q → sealed k q ≡ ks ++ x → (r : List (List ℕ)) × All IsName r × (sealed k r ≡ x)
unfolding sealed
upper k [] q x h e = (q, h, e)
upper k (j ∷ ks) [] x h e = absurd cc
upper k (j ∷ ks) (n ∷ q) x h e = let rest : sealed k q ≡ ks ++ x = cc in upper k ks q x (All-tail IsName n q h) rest

first : (k : Keys) (r before : List (List ℕ)) (name : List ℕ) → IsBytes k.key → All IsName r → All IsName before → sealed k r ≡ name ∷ sealed k before → (n : List ℕ) × IsName n × (SealName k before n ≡ name)
unfolding sealed
first k [] before name key h g e = absurd cc
first k (n ∷ r) before name key h g e =
    let top : SealName k r n ≡ name = cc in
    let above : sealed k r ≡ sealed k before = cc in
    let same : r ≡ before = sealed_apart k r before key (All-tail IsName n r h) g above in
    (n, All-head IsName n r h, ap (λ (p : List (List ℕ)). SealName k p n) (sym same) ∙ top)

pub next_name : {k : Keys} {text rest plain : List ℕ} {u : NamesUnder} (name after : List ℕ) (p : List (List ℕ)) (h : IsOpenedTo k text rest plain u) → rest ≡ name ++ 47 ∷ after → HasNoSlash name → IsBytes k.key → IsSealedOf k text p → (n : List ℕ) × IsName n × (SealName k h.before n ≡ name)
unfolding joined
next_name {k} {text} {rest} {plain} {u} name after p h e whole key o =
    let cut = components_grow (name ∷ sealed k h.before) after (All-cons HasNoSlash name (sealed k h.before) whole (sealed_plain k h.before)) in
    let text_is : text ≡ joined (name ∷ sealed k h.before) ++ 47 ∷ after =
    h.spelled ∙ ap (λ (l : List ℕ). joined (sealed k h.before) ++ 47 ∷ l) e ∙ sym (append_assoc (joined (sealed k h.before)) (47 ∷ name) (47 ∷ after)) in
    let seen : sealed k p ≡ (cut.0 ++ cut.1 ∷ []) ++ name ∷ sealed k h.before =
    sym (components-joined (sealed k p) (sealed_plain k p)) ∙ ap components (o.is_sealed ∙ text_is) ∙ cut.2 ∙ sym (append_assoc cut.0 (cut.1 ∷ []) (name ∷ sealed k h.before)) in
    let above = upper k (cut.0 ++ cut.1 ∷ []) p (name ∷ sealed k h.before) o.names seen in
    first k above.0 h.before name key above.1 h.names above.2

pub last_name : {k : Keys} {text rest plain : List ℕ} {u : NamesUnder} (p : List (List ℕ)) (h : IsOpenedTo k text rest plain u) → HasNoSlash rest → IsBytes k.key → IsSealedOf k text p → (n : List ℕ) × IsName n × (SealName k h.before n ≡ rest)
unfolding joined
last_name {k} {text} {rest} {plain} {u} p h whole key o =
    let seen : sealed k p ≡ rest ∷ sealed k h.before =
    sym (components-joined (sealed k p) (sealed_plain k p)) ∙ ap components (o.is_sealed ∙ h.spelled) ∙ components-joined (rest ∷ sealed k h.before) (All-cons HasNoSlash rest (sealed k h.before) whole (sealed_plain k h.before)) in
    first k p h.before rest key o.names h.names seen
