-- Connections that are taken, one after another.
use Rattle.std.proofs.Common.{◌≡◌, ◌⊎◌, inl, inr, ℕ, ◌+◌, ◌<◌, ◌≤◌, List, [], ◌∷◌, ◌++◌, refl, sym, ap, subst, ◌∙◌, arith}
use Rattle.std.specs.Prelude.{Option, Some, None, Bool, true, false}
use Rattle.std.proofs.lemmas.List.{append_assoc, append-nil}
use Rattle.serve_cli.specs.Hosts.{HostTold}
use Rattle.serve_cli.specs.Serving.{Joined, Taking, Closed}
use Rattle.serve_cli.specs.declared.closing.Close.TheVariants.{NoMore, NumbersUsed, HostFault, Memory}

pub taking_none : (t : HostTold) → Taking t t 0
taking_none t = record {
  joined = record { accepted = omega arith; started = omega arith; skipped_later = omega arith; faults_later = omega arith };
  below = omega arith;
  ended = refl;
}

pub joined_both : (a b c : HostTold) (n m : ℕ) → Joined a b n → Joined b c m → Joined a c (n + m)
joined_both a b c n m h k =
    let h0 = h.accepted in let k0 = k.accepted in
    let h1 = h.started in let k1 = k.started in
    let h2 = h.skipped_later in let k2 = k.skipped_later in
    let h3 = h.faults_later in let k3 = k.faults_later in
    record { accepted = omega (arith, h0, k0); started = omega (arith, h1, k1); skipped_later = omega (arith, h2, k2); faults_later = omega (arith, h3, k3) }

pub taking_more : (a b c : HostTold) (n : ℕ) → Taking a b n → Joined b c 1 → c.ended ≡ b.ended → n + 1 < 4294967295 → Taking a c (n + 1)
taking_more a b c n t j e below = record { joined = joined_both a b c n 1 t.joined j; below = below; ended = e ∙ t.ended }

pub used_up : (a b c : HostTold) (n : ℕ) → Taking a b n → Joined b c 1 → c.ended ≡ b.ended → n + 1 ≡ 4294967295 → Closed a c (n + 1) NumbersUsed
used_up a b c n t j e is = record { joined = joined_both a b c n 1 t.joined j; by = (is, e ∙ t.ended) }
