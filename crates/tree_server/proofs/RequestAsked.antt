-- A request was asked of the tree, or was not for want of memory.
use Rattle.std.proofs.Common.{◌≡◌, ◌≢◌, ◌↔◌, ℕ, ◌+◌, ◌-◌, ◌≤◌, ◌^◌, ◌+ℤ◌, List, Some, min, sym, ap, ◌∙◌, subst, arith}
use Rattle.std.specs.Option.{option_map}
use Rattle.zk_messages.specs.declared.request.Request.{Request}
use Rattle.zk_messages.specs.declared.request.Request.TheVariants as requests
use Rattle.tree_state.specs.declared.held.Held.{Held}
use Rattle.tree_state.specs.declared.message.Output.{Output}
use Rattle.tree_state.specs.declared.session.LiveSession.{LiveSession}
use Rattle.tree_state.specs.Commands.{Command, IsCommand}
use Rattle.tree_state.specs.Sessions.{live_of}
use Rattle.tree_state.specs.State.{session_of, session_at}
use Rattle.tree_state.specs.Trees.{Does, Stays}
use Rattle.tree_state.proofs.Folding.{kept_naming}
use Rattle.tree_state.proofs.SessionLists.{is_on}
use Rattle.store_side.specs.declared.entry.Entry.{Entry}
use Rattle.store_side.specs.Owed.{IsTime}
use Rattle.store_side.specs.Past.{Past, state_of}
use Rattle.tree_server.specs.declared.books.Books.{Books}
use Rattle.tree_server.specs.declared.dues.Due.{Due}
use Rattle.tree_server.specs.declared.request.Origin.{Origin}
use Rattle.tree_server.specs.Asking.{Asked, act_of}
use Rattle.tree_server.specs.Machines.{Stands}
use Rattle.tree_server.specs.Times.{AreDues, AddsDue, LeavesDue, RemovesDue}
use Rattle.tree_server.proofs.AskedDues.{dues_back, heard_dues, its_time, next_time}
use Rattle.tree_server.proofs.AskedSessions.{closed_sessions, closing, heard_sessions, not_closing}
use Rattle.tree_server.proofs.DuesKept.{dues_gone}

-- ---- the machine stands where it stood

-- there is room for what is owed, where room was made for one more
pub room_made : (named : List ℕ → ℕ → List ℕ → Type 0) (keeps : List Entry → Type 0) (room more after : ℕ) (held : Held) (books : Books)
    (past : Past)
    → Stands named keeps room held books past → more ≡ min (books.owed + 1) (2 ^ 64 - 1) → more ≤ after → books.owed + 1 ≤ after
room_made named keeps room more after held books past h e k =
    let w = h.within in
    let l = h.limit in
    let s = h.small in
    omega arith

pub stands_still : (named named' : List ℕ → ℕ → List ℕ → Type 0) (keeps keeps' : List Entry → Type 0) (room room' : ℕ) (held held' : Held)
    (books books' : Books) (dues : List Due)
    (past : Past)
    → Stands named keeps room held books past
    → ((stem : List ℕ) (number : ℕ) (text : List ℕ) → named' stem number text ↔ named stem number text) → Stays held held'
    → ((order : List Entry) → keeps order → keeps' order) → books.owed + 1 ≤ room' → books' ≡ record books { dues = dues }
    → AreDues dues (state_of past).sessions → Stands named' keeps' room' held' books' past
stands_still named named' keeps keeps' room room' held held' books books' dues past h names stays kept roomy is are =
    subst (λ (b : Books). Stands named' keeps' room' held' b past) (sym is) (record {
      naming = kept_naming named named' past.naming names h.naming;
      means = stays (state_of past) h.means;
      are_acts = h.are_acts;
      steps = h.steps;
      once = h.once;
      quiet = h.quiet;
      kept = kept past.order h.kept;
      roomy = omega (arith, roomy);
      key = h.key;
      limit = h.limit;
      small = h.small;
      counted = h.counted;
      owes = h.owes;
      within = h.within;
      greatest = h.greatest;
      given = h.given;
      drawn = h.drawn;
      dues = are;
      timely = h.timely;
      distinct = h.distinct;
    })

-- ---- what is known of the session of a request

-- what the code read of it, and the time at which it would be up
pub record IsRead (past : Past) (from : Origin) (live : LiveSession) (before : Due) : Type 0 where
  pub on : session_of from.connection (state_of past).sessions ≡ Some from.session
  pub shown : Some live ≡ option_map live_of (session_at from.session (state_of past).sessions)
  pub its : before.session ≡ from.session
  pub at : IsTime live.heard → before.at ≡ live.heard +ℤ live.timeout

-- and the next time
pub record IsNextTime (from : Origin) (live : LiveSession) (due : Due) : Type 0 where
  pub time : IsTime from.time
  pub its : due.session ≡ from.session
  pub at : IsTime from.time → due.at ≡ from.time +ℤ live.timeout

-- ---- the tree was asked

-- to close the session
pub asked_close : (named : List ℕ → ℕ → List ℕ → Type 0) (keeps : List Entry → Type 0) (room : ℕ) (held held' : Held)
    (books books' : Books) (past : Past) (from : Origin) (r : Request)
    (command : Command) (live : LiveSession) (before : Due) (dues : List Due) (outputs : List Output)
    → Stands named keeps room held books past → IsRead past from live before → IsCommand r command → r ≡ requests.Close
    → Does past.naming (state_of past) (act_of from command) held' outputs → books' ≡ books → RemovesDue before books'.dues dues
    → Asked past (act_of from command) held' dues outputs
asked_close named keeps room held held' books books' past from r command live before dues outputs h i a closes does same removes =
    let xs = (state_of past).sessions in
    let on = is_on from.connection from.session xs h.distinct i.on in
    let b = its_time from.session xs on.session live before h.timely on.live i.shown i.its i.at in
    let e = closed_sessions past.naming (state_of past) from.connection from.session from.xid from.time command i.on
    (closing r command a closes) in
    record {
      does = does;
      are_dues =
          subst (AreDues dues) (sym e)
          (dues_gone from.session xs on.session books.dues dues h.distinct on.live h.dues
          (subst (λ (d : Due). RemovesDue d books.dues dues) b
          (subst (λ (ds : List Due). RemovesDue before ds dues) (ap (λ (x : Books). x.dues) same) removes)));
    }

-- or something else, by which the session is heard
pub asked_heard : (named : List ℕ → ℕ → List ℕ → Type 0) (keeps : List Entry → Type 0) (room : ℕ) (held held' : Held)
    (books books' : Books) (past : Past) (from : Origin) (r : Request)
    (command : Command) (live : LiveSession) (before after : Due) (mid dues : List Due) (outputs : List Output)
    → Stands named keeps room held books past → IsRead past from live before → IsNextTime from live after → IsCommand r command
    → r ≢ requests.Close
    → Does past.naming (state_of past) (act_of from command) held' outputs → AddsDue after books.dues mid
    → books' ≡ record books { dues = mid }
    → LeavesDue before after books'.dues dues → Asked past (act_of from command) held' dues outputs
asked_heard named keeps room held held' books books' past from r command live before after mid dues outputs h i j a other does adds same
    leaves =
    let xs = (state_of past).sessions in
    let on = is_on from.connection from.session xs h.distinct i.on in
    let b = its_time from.session xs on.session live before h.timely on.live i.shown i.its i.at in
    let n = next_time from.session from.time xs on.session live after j.time on.live i.shown j.its j.at in
    let e = heard_sessions past.naming (state_of past) from.connection from.session from.xid from.time command i.on
    (not_closing r command a other) in
    record {
      does = does;
      are_dues =
          subst (AreDues dues) (sym e)
          (heard_dues from.session from.time xs on.session before after books.dues mid dues h.distinct on.live h.dues b n adds
          (subst (λ (ds : List Due). LeavesDue before after ds dues) (ap (λ (x : Books). x.dues) same) leaves));
    }

-- or there was no memory, and the times are as they were
pub dues_undone : (named : List ℕ → ℕ → List ℕ → Type 0) (keeps : List Entry → Type 0) (room : ℕ) (held : Held) (books books' : Books)
    (past : Past) (from : Origin)
    (live : LiveSession) (before after : Due) (mid dues : List Due)
    → Stands named keeps room held books past → IsRead past from live before → after.session ≡ from.session → AddsDue after books.dues mid
    → books' ≡ record books { dues = mid }
    → LeavesDue after before books'.dues dues → AreDues dues (state_of past).sessions
dues_undone named keeps room held books books' past from live before after mid dues h i its adds same leaves =
    let xs = (state_of past).sessions in
    let on = is_on from.connection from.session xs h.distinct i.on in
    let b = its_time from.session xs on.session live before h.timely on.live i.shown i.its i.at in
    dues_back from.session xs on.session before after books.dues mid dues on.live h.dues b its adds
    (subst (λ (ds : List Due). LeavesDue after before ds dues) (ap (λ (x : Books). x.dues) same) leaves)

-- the books, but for their times
pub books_back : (books mid new : Books) (added dues : List Due) → mid ≡ record books { dues = added } → new ≡ record mid { dues = dues }
    → new ≡ record books { dues = dues }
books_back books mid new added dues e f = f ∙ ap (λ (b : Books). record b { dues = dues }) e
