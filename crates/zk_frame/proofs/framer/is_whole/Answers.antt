use Rattle.std.proofs.Common.{length, refl}
use Rattle.std.proofs.lemmas.Bool.Decides.{Decides-eqb}
use Rattle.zk_frame.proofs.Taking.{partial_rest, long_rest, short_rest, waits}
use Rattle.zk_frame.proofs.framer.is_whole.Goals as goal

pub returns-then-filled-lt4-clause-rest : goal.returns-then-filled-lt4-clause-rest
returns-then-filled-lt4-clause-rest c = λ no. partial_rest _ _ _ _ c.requires c.if-filled-lt4.true

pub returns-in_default-clause-rest : goal.returns-in_default-clause-rest
returns-in_default-clause-rest c = λ no. long_rest _ _ _ _ _ c.requires c.if-filled-lt4.false c.in_default.ensures.err

pub returns-clause-whole : goal.returns-clause-whole
returns-clause-whole c = λ yes. waits _ _ _ _ _ c.requires c.if-filled-lt4.false c.in-Ok.ensures.ok ((Decides-eqb c.in-Ok.size (length c.args.body.now)).0 yes)

pub returns-clause-rest : goal.returns-clause-rest
returns-clause-rest c = λ no. short_rest _ _ _ _ _ _ c.requires c.if-filled-lt4.false c.in-Ok.ensures.ok refl
    (λ same. let yes = (Decides-eqb c.in-Ok.size (length c.args.body.now)).1 same in absurd cc)
