-- What is kept of a request for its reply is what its command asks.
use Rattle.std.proofs.Common.{◌≡◌, ℕ, ℤ, Bool, true, false, List, [], ◌∷◌, Option, Some, None, map, inl, inr, refl, sym, ap, subst, ◌∙◌}
use Rattle.std.specs.List.{AllZip}
use Rattle.std.proofs.lemmas.Option.{none-some}
use Rattle.zk_path.proofs.Judged.{one_text}
use Rattle.zk_records.specs.declared.create.CreateRequest.{CreateRequest}
use Rattle.zk_messages.specs.Refuses.{Refuses}
use Rattle.zk_messages.proofs.FirstRules.{one_outcome}
use Rattle.zk_messages.specs.declared.request.Op.{Op}
use Rattle.zk_messages.specs.declared.request.Op.TheVariants as ops
use Rattle.zk_messages.specs.declared.request.Request.{Request}
use Rattle.zk_messages.specs.declared.request.Request.TheVariants as requests
use Rattle.request_queue.specs.declared.asked.Asked.{Asked}
use Rattle.request_queue.specs.declared.asked.Asked.TheVariants as asks
use Rattle.request_queue.specs.declared.asked.AskedOp.{AskedOp}
use Rattle.request_queue.specs.declared.asked.AskedOp.TheVariants as op_asks
use Rattle.request_rewrite.specs.Names.{IsNameOf}
use Rattle.zk_path.specs.Paths.{IsTextOf}
use Rattle.request_rewrite.specs.Asks as kept
use Rattle.tree_state.specs.Nodes.{Path}
use Rattle.tree_state.specs.Commands.{Change, create, delete, set_content, check, Command, refused, single, multi, set_acl, stat_at, get_content, get_acl, get_children, sync, IsCreate, IsChange, Asks, IsCommand}
use Rattle.tree_state.proofs.Serving as serving
use Rattle.tree_state.proofs.OneCommand.{one_command}
use Rattle.sealed_machine.proofs.SealedChanges.{op_asked}
use Rattle.sealed_machine.proofs.SealedAnswers.{asked_of, change_asked}
use Rattle.sealed_machine.proofs.SealedTexts.{same_sequential, same_named}
use Rattle.sealed_machine.proofs.SealedRequests.{asks_of}

same_path_of : (text : List ℕ) (path p : Path) → IsTextOf text path → IsTextOf text p → path ≡ p
same_path_of text path p h t = one_text path p h.legal t.legal (sym h.spelled ∙ t.spelled)

-- the path of a create, and whether it is sequential
created : (r : CreateRequest) (path : Path) (a : Bool) (p : Path) (n : List ℕ) (d : Option (List ℕ)) (q e : Bool) → IsNameOf r.flags r.path a path → IsCreate r p n d q e
    → (a ≡ q) × (path ≡ n ∷ p)
created r path a p n d q e h t =
    let same = same_sequential r.flags r.path path a q h t.numbered in
    (same, same_named r.flags r.path path n p q (subst (λ (b : Bool). IsNameOf r.flags r.path b path) same h) t.named)

op_is : (r : Op) (asked : AskedOp) (c : Change) → kept.AsksOp r asked → IsChange r c → asked ≡ op_asked c
unfolding kept.AsksOp IsChange op_asked
op_is (ops.Create r) (op_asks.Create path a) (create p n d q e false) h t = let s = created r path a p n d q e h t.0 in (λ i. op_asks.Create (s.1 i) (s.0 i))
op_is (ops.Create r) (op_asks.Create path a) (create p n d q e true) h t = let x = t.1 in absurd cc
op_is (ops.Create r) (op_asks.Create path a) c h t = absurd t
op_is (ops.Create2 r) (op_asks.Create2 path a) (create p n d q e true) h t = let s = created r path a p n d q e h t.0 in (λ i. op_asks.Create2 (s.1 i) (s.0 i))
op_is (ops.Create2 r) (op_asks.Create2 path a) (create p n d q e false) h t = let x = t.1 in absurd cc
op_is (ops.Create2 r) (op_asks.Create2 path a) c h t = absurd t
op_is (ops.Delete r) op_asks.Delete (delete p v) h t = refl
op_is (ops.Delete r) op_asks.Delete c h t = absurd t
op_is (ops.SetContent r) (op_asks.SetContent path) (set_content p d v) h t = ap op_asks.SetContent (same_path_of r.path path p h t.0)
op_is (ops.SetContent r) (op_asks.SetContent path) c h t = absurd t
op_is (ops.Check r) op_asks.Check (check p v) h t = refl
op_is (ops.Check r) op_asks.Check c h t = absurd t
op_is r asked c h t = absurd h

ops_are : (rs : List Op) (asked : List AskedOp) (cs : List Change) → AllZip kept.AsksOp rs asked → AllZip IsChange rs cs → asked ≡ map op_asked cs
ops_are [] [] [] h t = refl
ops_are [] [] (c ∷ cs) h t = absurd t
ops_are [] (a ∷ asked) cs h t = absurd h
ops_are (r ∷ rs) [] cs h t = absurd h
ops_are (r ∷ rs) (a ∷ asked) [] h t = absurd t
ops_are (r ∷ rs) (a ∷ asked) (c ∷ cs) h t = let e = op_is r a c h.0 t.0 in let f = ops_are rs asked cs h.1 t.1 in (λ i. e i ∷ f i)

create_is : (r : CreateRequest) (path : Path) (q : Bool) (a : Command) → IsNameOf r.flags r.path q path → Asks (requests.Create r) a → asks.Create path q ≡ asked_of a
unfolding Asks asked_of change_asked
create_is r path a (single (create p n d q e false)) h t = let s = created r path a p n d q e h t.0 in (λ i. asks.Create (s.1 i) (s.0 i))
create_is r path a (single (create p n d q e true)) h t = let x = t.1 in absurd cc
create_is r path a (single c) h t = absurd t
create_is r path a c h t = absurd t

create2_is : (r : CreateRequest) (path : Path) (q : Bool) (a : Command) → IsNameOf r.flags r.path q path → Asks (requests.Create2 r) a → asks.Create2 path q ≡ asked_of a
unfolding Asks asked_of change_asked
create2_is r path a (single (create p n d q e true)) h t = let s = created r path a p n d q e h t.0 in (λ i. asks.Create2 (s.1 i) (s.0 i))
create2_is r path a (single (create p n d q e false)) h t = let x = t.1 in absurd cc
create2_is r path a (single c) h t = absurd t
create2_is r path a c h t = absurd t

multi_is : (rs : List Op) (asked : List AskedOp) (a : Command) → AllZip kept.AsksOp rs asked → Asks (requests.Multi rs) a → asks.Multi asked ≡ asked_of a
unfolding Asks asked_of
multi_is rs asked (multi cs) h t = ap asks.Multi (ops_are rs asked cs h t)
multi_is rs asked a h t = absurd t

at_row : (asked : Path → Asked) (row : Path → Command) (path p : Path) (a : Command) → ((q : Path) → asked_of (row q) ≡ asked q) → path ≡ p → a ≡ row p → asked path ≡ asked_of a
at_row asked row path p a same e f = ap asked e ∙ sym (same p) ∙ ap asked_of (sym f)

plain_is : (r : Request) (asked : Asked) (a : Command) → kept.AsksPlain r asked → Asks r a → asked ≡ asked_of a
unfolding kept.AsksPlain asked_of change_asked
plain_is (requests.Create r) (asks.Create path q) a h t = create_is r path q a h t
plain_is (requests.Create2 r) (asks.Create2 path q) a h t = create2_is r path q a h t
plain_is (requests.Delete r) asks.Empty a h t = let x = serving.asks_delete r a t in ap asked_of (sym x.2)
plain_is (requests.Exists r) (asks.StatOf path) a h t = let x = serving.asks_stat r a t in at_row asks.StatOf (λ p. stat_at p r.watch) path x.path a (λ q. refl) (same_path_of r.path path x.path h x.text) x.is
plain_is (requests.GetContent r) (asks.Content path) a h t = let x = serving.asks_content r a t in at_row asks.Content (λ p. get_content p r.watch) path x.path a (λ q. refl) (same_path_of r.path path x.path h x.text) x.is
plain_is (requests.SetContent r) (asks.StatOf path) a h t = let x = serving.asks_set_content r a t in at_row asks.StatOf (λ p. single (set_content p r.content r.version)) path x.0 a (λ q. refl) (same_path_of r.path path x.0 h x.1) x.2
plain_is (requests.GetAcl r) (asks.AclOf path) a h t = let x = serving.asks_acl r a t in at_row asks.AclOf get_acl path x.0 a (λ q. refl) (same_path_of r.path path x.0 h x.1) x.2
plain_is (requests.SetAcl r) (asks.StatOf path) a h t = let x = serving.asks_set_acl r a t in at_row asks.StatOf (λ p. set_acl p r.version) path x.0 a (λ q. refl) (same_path_of r.path path x.0 h x.1) x.2
plain_is (requests.GetChildren r) (asks.Children path) a h t = let x = serving.asks_names r a t in at_row asks.Children (λ p. get_children p r.watch false) path x.path a (λ q. refl) (same_path_of r.path path x.path h x.text) x.is
plain_is (requests.GetChildren2 r) (asks.Children2 path) a h t = let x = serving.asks_names_stat r a t in at_row asks.Children2 (λ p. get_children p r.watch true) path x.path a (λ q. refl) (same_path_of r.path path x.path h x.text) x.is
plain_is (requests.Sync r) (asks.SyncOf path) a h t = let x = serving.asks_sync r a t in at_row asks.SyncOf sync path x.0 a (λ q. refl) (same_path_of r.path path x.0 h x.1) x.2
plain_is requests.Ping asks.Empty a h t = ap asked_of (sym (serving.asks_ping a t))
plain_is (requests.Multi rs) (asks.Multi asked) a h t = multi_is rs asked a h t
plain_is (requests.SetWatches r) asks.Empty a h t = let x = serving.asks_watches r a t in ap asked_of (sym x.is)
plain_is requests.Close asks.Close a h t = ap asked_of (sym (serving.asks_close a t))
plain_is r asked a h t = absurd h

same_code : (r : Request) (c d : ℤ) → Refuses r (Some c) → Refuses r (Some d) → c ≡ d
same_code r c d h j = let e = one_outcome r (Some c) (Some d) h j in cc

refused_is : (r : Request) (code : ℤ) (a : Command) → Refuses r (Some code) → IsCommand r a → asks.Refused code ≡ asked_of a
unfolding IsCommand asked_of
refused_is r code a h (inl (c, j, e)) = ap asks.Refused (same_code r code c h j) ∙ ap asked_of (sym e)
refused_is r code a h (inr j) = absurd (none-some code (one_outcome r None (Some code) j.0 h))

-- what is kept of a request for its reply is what its command asks
pub asked_is : (r : Request) (asked : Asked) (a : Command) → kept.Asks r asked → IsCommand r a → asked ≡ asked_of a
unfolding kept.Asks
asked_is r asked a (inl (code, h, e)) c = e ∙ refused_is r code a h c
asked_is r asked a (inr (ok, h)) c = plain_is r asked a h (asks_of r a ok c)

some_command : (r : Request) (a : Asked) → kept.Asks r a → (command : Command) × IsCommand r command
unfolding kept.Asks
some_command r a (inl (code, h, e)) = (one_command r).some (Some code) h
some_command r a (inr (ok, h)) = (one_command r).some None ok

-- a request has one thing that is asked
pub one_asked : (r : Request) (a b : Asked) → kept.Asks r a → kept.Asks r b → a ≡ b
one_asked r a b h j = let c = some_command r a h in asked_is r a c.0 h c.1 ∙ sym (asked_is r b c.0 j c.1)

-- ---- what is kept of a request that has a command

name_of : (r : CreateRequest) (p : Path) (n : List ℕ) (d : Option (List ℕ)) (q e : Bool) → IsCreate r p n d q e → IsNameOf r.flags r.path q (n ∷ p)
unfolding IsNameOf
name_of r p n d q e h = (h.numbered, h.named)

op_kept : (r : Op) (c : Change) → IsChange r c → kept.AsksOp r (op_asked c)
unfolding kept.AsksOp IsChange op_asked
op_kept (ops.Create r) (create p n d q e false) h = name_of r p n d q e h.0
op_kept (ops.Create r) (create p n d q e true) h = let x = h.1 in absurd cc
op_kept (ops.Create r) c h = absurd h
op_kept (ops.Create2 r) (create p n d q e true) h = name_of r p n d q e h.0
op_kept (ops.Create2 r) (create p n d q e false) h = let x = h.1 in absurd cc
op_kept (ops.Create2 r) c h = absurd h
op_kept (ops.Delete r) (delete p v) h = tt
op_kept (ops.Delete r) c h = absurd h
op_kept (ops.SetContent r) (set_content p d v) h = h.0
op_kept (ops.SetContent r) c h = absurd h
op_kept (ops.Check r) (check p v) h = tt
op_kept (ops.Check r) c h = absurd h

ops_kept : (rs : List Op) (cs : List Change) → AllZip IsChange rs cs → AllZip kept.AsksOp rs (map op_asked cs)
ops_kept [] [] h = tt
ops_kept [] (c ∷ cs) h = absurd h
ops_kept (r ∷ rs) [] h = absurd h
ops_kept (r ∷ rs) (c ∷ cs) h = (op_kept r c h.0, ops_kept rs cs h.1)

create_kept : (r : CreateRequest) (a : Command) → Asks (requests.Create r) a → kept.AsksPlain (requests.Create r) (asked_of a)
unfolding Asks kept.AsksPlain asked_of change_asked
create_kept r (single (create p n d q e false)) h = name_of r p n d q e h.0
create_kept r (single (create p n d q e true)) h = let x = h.1 in absurd cc
create_kept r (single c) h = absurd h
create_kept r a h = absurd h

create2_kept : (r : CreateRequest) (a : Command) → Asks (requests.Create2 r) a → kept.AsksPlain (requests.Create2 r) (asked_of a)
unfolding Asks kept.AsksPlain asked_of change_asked
create2_kept r (single (create p n d q e true)) h = name_of r p n d q e h.0
create2_kept r (single (create p n d q e false)) h = let x = h.1 in absurd cc
create2_kept r (single c) h = absurd h
create2_kept r a h = absurd h

multi_kept : (rs : List Op) (a : Command) → Asks (requests.Multi rs) a → kept.AsksPlain (requests.Multi rs) (asked_of a)
unfolding Asks kept.AsksPlain asked_of
multi_kept rs (multi cs) h = ops_kept rs cs h
multi_kept rs a h = absurd h

kept_along : (r : Request) (a b : Command) → a ≡ b → kept.AsksPlain r (asked_of b) → kept.AsksPlain r (asked_of a)
kept_along r a b e h = subst (λ (c : Command). kept.AsksPlain r (asked_of c)) (sym e) h

plain_kept : (r : Request) (a : Command) → Asks r a → kept.AsksPlain r (asked_of a)
unfolding kept.AsksPlain asked_of change_asked Asks
plain_kept (requests.Unknown n b) a h = absurd h
plain_kept (requests.Auth b) a h = absurd h
plain_kept (requests.Create r) a h = create_kept r a h
plain_kept (requests.Create2 r) a h = create2_kept r a h
plain_kept (requests.Delete r) a h = let x = serving.asks_delete r a h in kept_along (requests.Delete r) a _ x.2 tt
plain_kept (requests.Exists r) a h = let x = serving.asks_stat r a h in kept_along (requests.Exists r) a _ x.is x.text
plain_kept (requests.GetContent r) a h = let x = serving.asks_content r a h in kept_along (requests.GetContent r) a _ x.is x.text
plain_kept (requests.SetContent r) a h = let x = serving.asks_set_content r a h in kept_along (requests.SetContent r) a _ x.2 x.1
plain_kept (requests.GetAcl r) a h = let x = serving.asks_acl r a h in kept_along (requests.GetAcl r) a _ x.2 x.1
plain_kept (requests.SetAcl r) a h = let x = serving.asks_set_acl r a h in kept_along (requests.SetAcl r) a _ x.2 x.1
plain_kept (requests.GetChildren r) a h = let x = serving.asks_names r a h in kept_along (requests.GetChildren r) a _ x.is x.text
plain_kept (requests.GetChildren2 r) a h = let x = serving.asks_names_stat r a h in kept_along (requests.GetChildren2 r) a _ x.is x.text
plain_kept (requests.Sync r) a h = let x = serving.asks_sync r a h in kept_along (requests.Sync r) a _ x.2 x.1
plain_kept requests.Ping a h = kept_along requests.Ping a _ (serving.asks_ping a h) tt
plain_kept (requests.Multi rs) a h = multi_kept rs a h
plain_kept (requests.SetWatches r) a h = let x = serving.asks_watches r a h in kept_along (requests.SetWatches r) a _ x.is tt
plain_kept requests.Close a h = kept_along requests.Close a _ (serving.asks_close a h) tt

refused_kept : (code : ℤ) (a : Command) → a ≡ refused code → asked_of a ≡ asks.Refused code
unfolding asked_of
refused_kept code a e = ap asked_of e

-- and what its command asks is kept
pub command_kept : (r : Request) (a : Command) → IsCommand r a → kept.Asks r (asked_of a)
unfolding IsCommand kept.Asks
command_kept r a (inl (code, h, e)) = inl (code, h, refused_kept code a e)
command_kept r a (inr h) = inr (h.0, plain_kept r a h.1)
