-- The law over many sessions.
use Rattle.std.proofs.Common.{ℕ, List, ◌++◌}
use Rattle.tree_state.specs.State.{start}
use Rattle.tree_state.specs.Plain.{plain}
use Rattle.store_side.specs.Messages.{Messages}
use Rattle.store_side.specs.Out.{out}
use Rattle.sealed_machine.proofs.AnswersFit.{plain_fits}
use Rattle.sealed_machine.proofs.RefusalCodes.{all_answerable}
use Rattle.entry_session.proofs.OwnIvs.{own_ivs}
use Rattle.session_law.specs.Law.{HoldsOverSessions}
use Rattle.session_law.proofs.Joined.{filled, filled_acts, filled_steps, filled_once, filled_fills, talks_of, told_of, turn_of, closing_of}
use Rattle.session_law.proofs.Served.{served}

pub holds : HoldsOverSessions
holds k boot naming passwords past x items under_way unfed w some names follows j b =
    let order = filled k w some boot naming names passwords past x items under_way unfed follows j in
    let acts = filled_acts k w some boot naming names passwords past x items under_way unfed follows j in
    let fits : (c : ℕ) → (bytes : List ℕ) × Messages (out plain acts.acts c) bytes =
    λ c. let r = plain_fits.messages k _ _ (past.told c) (past.pulled c ++ past.waiting c) w (all_answerable c start order.plain_order acts.acts acts.are)
    (talks_of k w some boot naming names passwords past x items under_way unfed follows j c) (follows.spelled c) in (r.0, r.1) in
    record {
      plain_order = order.plain_order;
      fills = filled_fills k w some boot naming names passwords past x items under_way unfed follows j;
      acts = acts.acts;
      legal = record {
        are_acts = acts.are;
        steps = filled_steps k w some boot naming names passwords past x items under_way unfed follows j;
        once = filled_once k w some boot naming names passwords past x items under_way unfed follows j;
        answers_fit = plain_fits.answers k naming order.plain_order acts.acts past.acts past.told (λ c. past.pulled c ++ past.waiting c) w names acts.are acts.veil follows.shown follows.spelled;
      };
      veils = order.veils;
      own_ivs = own_ivs k boot (λ c. (x c).heard) (λ c. (x c).stand) (λ c. (j c).ran);
      served = λ c. served k boot c past (x c) (items c) (under_way c) (unfed c) (j c) order.plain_order acts.acts order.veils (order.front c) (follows.spelled c)
          (told_of k w some boot naming names passwords past x items under_way unfed follows j b c) (closing_of k w some boot naming names passwords past x items under_way unfed follows j c) (fits c).0 (fits c).1
          (turn_of k w some boot naming names passwords past x items under_way unfed follows j b c);
    }
