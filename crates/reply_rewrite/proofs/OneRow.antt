-- Each part of an answer has one plain form or one cause.
use Rattle.std.proofs.Common.{◌≡◌, ◌⊎◌, ◌<◌, ◌≤◌, ℕ, ℤ, pos, Bool, List, [], ◌∷◌, length, inl, inr, refl, sym, ap, ◌∙◌, subst, arith, Option, Some, None}
use Rattle.std.proofs.lemmas.Bool.{cases_lt}
use Rattle.std.specs.Cmp.Lexicographic.{nat_list_cmp_total}
use Rattle.std.specs.List.{AllByRecursion}
use Rattle.std.specs.List.Sorted.{IsStrictlySortedBy}
use Rattle.std.specs.declared.cmp.Ordering.TheVariants.{Less, Greater}
use Rattle.std.specs.Ordering.{ordering_reverse}
use Rattle.zk_path.specs.Paths.{text_of}
use Rattle.path_seal.specs.Sealed.{Keys, AreKeys}
use Rattle.payload_seal.proofs.Judged.{judged_once}
use Rattle.payload_seal.specs.Payload.{Accepts, content_of}
use Rattle.payload_seal.specs.declared.opening.Flaw.{Flaw}
use Rattle.zk_records.specs.declared.stat.Stat.{Stat}
use Rattle.reply_rewrite.proofs.Paths.{one_path}
use Rattle.reply_rewrite.specs.Children.{IsOneOf, byte_order, OpensAt, StandsEarlier, AreGoodBefore, ArePlainNames, IsFirstUnopened, IsFirstDoubled, IsPlainList, IsGoodList, IsListCause, IsNamesCause}
use Rattle.reply_rewrite.specs.Names.{IsCreated, IsNotCreated}
use Rattle.reply_rewrite.specs.Stats.{IsPlainLength, IsPlainStat, HasBadLength, IsPlainContent, HasFlaw, HasOtherLength}
use Rattle.reply_rewrite.specs.declared.finding.Cause.{Cause}
use Rattle.reply_rewrite.specs.declared.finding.Cause.TheVariants as causes

-- ---- paths

pub one_created : (k : Keys) (asked : List (List ℕ)) (sequential : Bool) (text a b : List ℕ) → AreKeys k → IsCreated k asked sequential text a → IsCreated k asked sequential text b → a ≡ b
one_created k asked sequential text a b keys x y = x.spelled ∙ ap text_of (one_path k text x.path y.path keys x.opened y.opened) ∙ sym y.spelled

pub created_or_not : (k : Keys) (asked : List (List ℕ)) (sequential : Bool) (text a : List ℕ) → IsCreated k asked sequential text a → IsNotCreated k asked sequential text → ⊥
created_or_not k asked sequential text a x none = none x.path x.opened x.made

-- ---- Stats

pub one_length : (path : List (List ℕ)) (stored a b : ℤ) → IsPlainLength path stored a → IsPlainLength path stored b → a ≡ b
one_length [] stored a b x y = x.1 ∙ sym y.1
one_length (n ∷ p) stored a b x y = x.1 ∙ sym y.1

pub one_stat : (path : List (List ℕ)) (stored a b : Stat) → IsPlainStat path stored a → IsPlainStat path stored b → a ≡ b
one_stat path stored a b x y =
    x.same_rest ∙ ap (λ (z : ℤ). record stored { length = z }) (one_length path stored.length a.length b.length x.plain_length y.plain_length) ∙ sym y.same_rest

pub stat_or_bad : (path : List (List ℕ)) (stored a : Stat) (told : ℤ) → IsPlainStat path stored a → HasBadLength path stored told → ⊥
stat_or_bad path stored a told x bad = bad.unfit a.length x.plain_length

-- ---- contents

pub one_content : (keys path : List (List ℕ)) (payload : List ℕ) (d e : Option (List ℕ)) → Accepts keys path payload d → Accepts keys path payload e → d ≡ e
one_content = judged_once.one_content

pub content_or_flaw : (keys path : List (List ℕ)) (payload : Option (List ℕ)) (d : Option (List ℕ)) (f : Flaw) → Accepts keys path (content_of payload) d → HasFlaw keys path payload f → ⊥
content_or_flaw keys path payload d f x y = judged_once.not_both keys path (content_of payload) d f x y

pub content_or_other : (keys path : List (List ℕ)) (payload : Option (List ℕ)) (stored : Stat) (content : Option (List ℕ)) (plain : Stat) (told : ℤ) → IsPlainContent keys path payload stored content plain → HasOtherLength keys path payload stored told → ⊥
content_or_other keys path payload stored content plain told x other =
    let same = one_content keys path (content_of payload) content other.content x.accepted other.accepted in
    other.unfit (subst (λ (z : ℤ). IsPlainLength path stored.length z) (x.fits ∙ ap (λ (d : Option (List ℕ)). pos (length (content_of d))) same) x.stat.plain_length)

-- ---- names of children

never_both : (x y : List ℕ) → byte_order x y ≡ Less → byte_order y x ≡ Less → ⊥
never_both x y a b =
    let turned : Less ≡ Greater = sym a ∙ nat_list_cmp_total.antisymm x y ∙ ap ordering_reverse b in
    cc

below : (x q : List ℕ) (xs : List (List ℕ)) → AllByRecursion (λ y. byte_order x y ≡ Less) xs → IsOneOf q xs → byte_order x q ≡ Less
below x q [] h one = absurd one
below x q (y ∷ ys) h (inl e) = subst (λ (z : List ℕ). byte_order x z ≡ Less) (sym e) h.0
below x q (y ∷ ys) h (inr one) = below x q ys h.1 one

same_first : (x y : List ℕ) (xs ys : List (List ℕ)) → AllByRecursion (λ z. byte_order x z ≡ Less) xs → AllByRecursion (λ z. byte_order y z ≡ Less) ys → IsOneOf x (y ∷ ys) → IsOneOf y (x ∷ xs) → x ≡ y
same_first x y xs ys a b (inl e) two = e
same_first x y xs ys a b (inr one) (inl e) = sym e
same_first x y xs ys a b (inr one) (inr two) = absurd (never_both x y (below x y xs a two) (below y x ys b one))

one_later : (q x y : List ℕ) (xs ys : List (List ℕ)) → AllByRecursion (λ z. byte_order x z ≡ Less) xs → x ≡ y → IsOneOf q xs → IsOneOf q (y ∷ ys) → IsOneOf q ys
one_later q x y xs ys a e one (inl same) =
    let less = subst (λ (z : List ℕ). byte_order x z ≡ Less) (same ∙ sym e) (below x q xs a one) in
    absurd (never_both x x less less)
one_later q x y xs ys a e one (inr two) = two

one_ascending : (xs ys : List (List ℕ)) → IsStrictlySortedBy byte_order xs → IsStrictlySortedBy byte_order ys → ((q : List ℕ) → IsOneOf q xs → IsOneOf q ys) → ((q : List ℕ) → IsOneOf q ys → IsOneOf q xs) → xs ≡ ys
unfolding IsStrictlySortedBy
one_ascending [] [] a b f g = refl
one_ascending [] (y ∷ ys) a b f g = absurd (g y (inl refl))
one_ascending (x ∷ xs) [] a b f g = absurd (f x (inl refl))
one_ascending (x ∷ xs) (y ∷ ys) a b f g =
    let e = same_first x y xs ys a.0 b.0 (f x (inl refl)) (g y (inl refl)) in
    let rest = one_ascending xs ys a.1 b.1 (λ q one. one_later q x y xs ys a.0 e one (f q (inr one))) (λ q one. one_later q y x ys xs b.0 (sym e) one (g q (inr one))) in
    (λ i. e i ∷ rest i)

pub one_names : (k : Keys) (path stored a b : List (List ℕ)) → ArePlainNames k path stored a → ArePlainNames k path stored b → a ≡ b
one_names k path stored a b x y =
    one_ascending a b x.ascending y.ascending (λ q h. (y.opened.those q).1 ((x.opened.those q).0 h)) (λ q h. (x.opened.those q).1 ((y.opened.those q).0 h))

-- the first bad place is one
first_place : (k : Keys) (path stored : List (List ℕ)) (i j : ℕ) → AreGoodBefore k path stored i → AreGoodBefore k path stored j → ((OpensAt k path stored i → ⊥) ⊎ StandsEarlier stored i) → ((OpensAt k path stored j → ⊥) ⊎ StandsEarlier stored j) → i ≡ j
first_place k path stored i j a b x y = by_cases (cases_lt i j) (cases_lt j i)
  where
    bad_in : (m n : ℕ) → AreGoodBefore k path stored n → m < n → ((OpensAt k path stored m → ⊥) ⊎ StandsEarlier stored m) → ⊥
    bad_in m n good l (inl closed) = closed (good.opens m l)
    bad_in m n good l (inr earlier) = good.apart m l earlier

    by_cases : (i < j) ⊎ (j ≤ i) → (j < i) ⊎ (i ≤ j) → i ≡ j
    by_cases (inl l) other = absurd (bad_in i j b l x)
    by_cases (inr g) (inl l) = absurd (bad_in j i a l y)
    by_cases (inr g) (inr h) = omega (arith, g, h)

pub good_or_not : (k : Keys) (path stored : List (List ℕ)) (c : Cause) → AreGoodBefore k path stored (length stored) → IsNamesCause k path stored c → ⊥
good_or_not k path stored (causes.Child index) good h = h.closed (good.opens index h.within)
good_or_not k path stored (causes.Doubled index) good h = good.apart index h.within h.earlier
good_or_not k path stored c good h = absurd h

at_once : (k : Keys) (path stored : List (List ℕ)) (i j : ℕ) → IsFirstUnopened k path stored i → IsFirstDoubled k path stored j → ⊥
at_once k path stored i j x y =
    let same = first_place k path stored i j x.before y.before (inl x.closed) (inr y.earlier) in
    x.closed (subst (λ (n : ℕ). OpensAt k path stored n) (sym same) y.opens)

pub one_names_cause : (k : Keys) (path stored : List (List ℕ)) (c d : Cause) → IsNamesCause k path stored c → IsNamesCause k path stored d → c ≡ d
one_names_cause k path stored (causes.Child i) (causes.Child j) x y = ap causes.Child (first_place k path stored i j x.before y.before (inl x.closed) (inl y.closed))
one_names_cause k path stored (causes.Child i) (causes.Doubled j) x y = absurd (at_once k path stored i j x y)
one_names_cause k path stored (causes.Child i) d x y = absurd y
one_names_cause k path stored (causes.Doubled i) (causes.Child j) x y = absurd (at_once k path stored j i y x)
one_names_cause k path stored (causes.Doubled i) (causes.Doubled j) x y = ap causes.Doubled (first_place k path stored i j x.before y.before (inr x.earlier) (inr y.earlier))
one_names_cause k path stored (causes.Doubled i) d x y = absurd y
one_names_cause k path stored c d x y = absurd x

-- ---- lists of children

pub good_list : (k : Keys) (path : List (List ℕ)) (list names : Option (List (List ℕ))) → IsPlainList k path list names → IsGoodList k path list
unfolding IsPlainList IsGoodList
good_list k path None None h = absurd h
good_list k path None (Some plain) h = absurd h
good_list k path (Some stored) None h = absurd h
good_list k path (Some stored) (Some plain) h = h.good

pub one_list : (k : Keys) (path : List (List ℕ)) (stored a b : Option (List (List ℕ))) → IsPlainList k path stored a → IsPlainList k path stored b → a ≡ b
unfolding IsPlainList
one_list k path (Some stored) (Some a) (Some b) x y = ap Some (one_names k path stored a b x y)
one_list k path (Some stored) (Some a) None x y = absurd y
one_list k path (Some stored) None b x y = absurd x
one_list k path None (Some a) b x y = absurd x
one_list k path None None b x y = absurd x

pub good_list_or_not : (k : Keys) (path : List (List ℕ)) (stored : Option (List (List ℕ))) (c : Cause) → IsGoodList k path stored → IsListCause k path stored c → ⊥
unfolding IsGoodList IsListCause
good_list_or_not k path None c good h = good
good_list_or_not k path (Some stored) c good h = good_or_not k path stored c good h

pub one_list_cause : (k : Keys) (path : List (List ℕ)) (stored : Option (List (List ℕ))) (c d : Cause) → IsListCause k path stored c → IsListCause k path stored d → c ≡ d
unfolding IsListCause
one_list_cause k path None c d x y = x ∙ sym y
one_list_cause k path (Some stored) c d x y = one_names_cause k path stored c d x y
