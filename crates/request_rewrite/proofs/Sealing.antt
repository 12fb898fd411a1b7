-- Records that are sealed field by field.
use Rattle.std.proofs.Common.{◌≡◌, ℕ, ℤ, Bool, false, List, [], ◌∷◌, Some, refl, sym, ap}
use Rattle.path_seal.specs.Sealed.{Keys, SealPath}
use Rattle.payload_seal.specs.Payload.{SealData}
use Rattle.payload_seal.specs.declared.keys.EntryKeys.{EntryKeys}
use Rattle.zk_records.specs.declared.create.CreateRequest.{CreateRequest}
use Rattle.zk_records.specs.declared.node.SetContentRequest.{SetContentRequest}
use Rattle.zk_records.specs.declared.set_acl.SetAclRequest.{SetAclRequest}
use Rattle.zk_path.specs.Paths.{IsTextOf}
use Rattle.zk_messages.specs.Refuses.{IsOpen, open_acl}
use Rattle.request_rewrite.specs.Names.{IsNameOf}
use Rattle.request_rewrite.specs.Veil.{VeilsCreate, VeilsSetContent, VeilsSetAcl}
use Rattle.request_rewrite.proofs.Naming.{name_sealed, text_sealed}

pub create_veiled : (k : EntryKeys) (iv : List ℕ) (r : CreateRequest) (sequential : Bool) (path : List (List ℕ)) (text content : List ℕ) (flags : ℤ) → IsNameOf r.flags r.path sequential path → IsOpen r.acls → text ≡ SealPath k.names path → content ≡ SealData k.payloads iv path sequential r.content → flags ≡ r.flags → VeilsCreate k (iv ∷ []) r (record { path = text; content = Some content; acls = Some (open_acl ∷ []); flags = flags })
create_veiled k iv r sequential path text content flags named is_open p c same = record {
  sequential = sequential;
  path = path;
  iv = iv;
  named = named;
  one_iv = refl;
  sealed_path = name_sealed k.names r.flags r.path text sequential path named p;
  sealed_content = ap Some c;
  same_acls = sym is_open;
  same_flags = same;
}

-- and with its own ACLs
pub create_moved : (k : EntryKeys) (iv : List ℕ) (r : CreateRequest) (sequential : Bool) (path : List (List ℕ)) (text content : List ℕ) (flags : ℤ) → IsNameOf r.flags r.path sequential path → text ≡ SealPath k.names path → content ≡ SealData k.payloads iv path sequential r.content → flags ≡ r.flags → VeilsCreate k (iv ∷ []) r (record { path = text; content = Some content; acls = r.acls; flags = flags })
create_moved k iv r sequential path text content flags named p c same = record {
  sequential = sequential;
  path = path;
  iv = iv;
  named = named;
  one_iv = refl;
  sealed_path = name_sealed k.names r.flags r.path text sequential path named p;
  sealed_content = ap Some c;
  same_acls = refl;
  same_flags = same;
}

pub content_veiled : (k : EntryKeys) (iv : List ℕ) (r : SetContentRequest) (path : List (List ℕ)) (text content : List ℕ) (version : ℤ) → IsTextOf r.path path → text ≡ SealPath k.names path → content ≡ SealData k.payloads iv path false r.content → version ≡ r.version → VeilsSetContent k (iv ∷ []) r (record { path = text; content = Some content; version = version })
content_veiled k iv r path text content version named p c same = record {
  iv = iv;
  text = record { path = path; named = named; is_sealed = p };
  one_iv = refl;
  sealed_content = ap Some c;
  same_version = same;
}

pub acl_veiled : (k : Keys) (r : SetAclRequest) (path : List (List ℕ)) (text : List ℕ) → IsTextOf r.path path → text ≡ SealPath k path → VeilsSetAcl k r (record { path = text; acls = r.acls; version = r.version })
acl_veiled k r path text named p = record { text = text_sealed k r.path text path named p; same_acls = refl; same_version = refl }

pub ruleset sealings = (create_veiled, create_moved, content_veiled, acl_veiled)
