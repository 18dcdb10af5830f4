-- The host and the path of an HTTP URL are visible bytes.
use Rattle.std.proofs.Common.{◌≡◌, ◌<◌, ◌⊎◌, inl, inr, ⊎_elim, get_or, ℕ, ◌==◌, ◌||◌, ◌&&◌, not, true, leb, List, [], ◌∷◌, ◌++◌, All, Option, Some, None, refl, sym, ap, ◌∙◌, subst, arith, length, codes}
use Rattle.std.specs.Prelude.{IsTrue, is_some, unwrap_or}
use Rattle.std.specs.Option.{option_map}
use Rattle.std.proofs.lemmas.Bool.Decides.{nat_tests}
use Rattle.std.proofs.lemmas.List.{length-append}
use Rattle.std.proofs.lemmas.List.Elements.{All-append}
use Rattle.std.proofs.lemmas.Option.{none-some, same_Some}
use Rattle.percent_encoding.specs.declared.ascii_set.TheConstants.{CONTROLS}
use Rattle.percent_encoding.specs.Percent.{IsKept}
use Rattle.url.specs.declared.sets.TheConstants.{PATH, QUERY, SPECIAL_QUERY, FORBIDDEN_HOST, FORBIDDEN_DOMAIN}
use Rattle.url.specs.declared.host.Host.{Host}
use Rattle.url.specs.declared.host.Host.TheVariants.{Domain, Ipv4, Ipv6}
use Rattle.url.specs.declared.scheme.SchemeType.{SchemeType}
use Rattle.url.specs.declared.scheme.SchemeType.TheVariants.{File, SpecialNotFile, NotSpecial}
use Rattle.url.specs.Host.{host_text, IsHostOf}
use Rattle.url.specs.Input.{when}
use Rattle.url.specs.Scheme.{is_special}
use Rattle.url.specs.Parts.{Parts, kind_of, has_host, nonempty_host, query_set, IsHierarchicalPath, IsValid}
use Rattle.url.proofs.HostLemmas.{All-host_text}
use Rattle.url.proofs.PathLemmas.{rooted}
use Rattle.url.proofs.SetLemmas.{passes_from_kept}
use Rattle.url.proofs.TextLemmas.{All_one, All_kept, All_part}
use Rattle.url.proofs.ValidLemmas.{segment_list_kept, hierarchical, base_from_authority}
use Rattle.nb_responses.specs.Requests.{is_visible, IsSendable}
use Rattle.nb_uri.specs.Resolutions.{http_path}

opaque_seen : (b : ℕ) → IsKept FORBIDDEN_HOST b → IsKept CONTROLS b → IsTrue (is_visible b)
opaque_seen b allowed kept =
    let blank = passes_from_kept FORBIDDEN_HOST (λ x. not (x == 32)) refl b allowed in
    let seen = passes_from_kept CONTROLS (λ x. leb 32 x && leb x 126) refl b kept in
    grind (arith, nat_tests)

host_seen : (kind : SchemeType) (host : Host (List ℕ)) → IsHostOf kind host → All (λ b. IsTrue (is_visible b)) (host_text host)
host_seen kind host =
    All-host_text (λ b. IsTrue (is_visible b)) kind host (passes_from_kept FORBIDDEN_DOMAIN is_visible refl) opaque_seen (λ b digit. grind (arith, nat_tests)) (λ b hex. grind (arith, nat_tests)) refl refl

host_named : (host : Host (List ℕ)) → IsHostOf SpecialNotFile host → 0 < length (host_text host)
host_named (Domain domain) is = is.1
host_named (Ipv4 address) is = simp length-append (omega arith)
host_named (Ipv6 address) is = simp length-append (omega arith)

query_seen : (kind : SchemeType) (b : ℕ) → IsKept (query_set kind) b → IsTrue (is_visible b)
query_seen File = passes_from_kept SPECIAL_QUERY is_visible refl
query_seen SpecialNotFile = passes_from_kept SPECIAL_QUERY is_visible refl
query_seen NotSpecial = passes_from_kept QUERY is_visible refl

-- a host that has a text
hosted_by : (found : Option (Host (List ℕ))) (text : List ℕ) → option_map host_text found ≡ Some text → (host : Host (List ℕ)) × (found ≡ Some host) × (host_text host ≡ text)
hosted_by None text is = absurd (none-some text is)
hosted_by (Some host) text is = (host, refl, same_Some (host_text host) text is)

from_root : (path tail : List ℕ) → 0 < length path → (path ≡ []) ⊎ (get_or path 0 0 ≡ 47) → (below : List ℕ) × (path ++ tail ≡ 47 ∷ below)
from_root [] tail some is = absurd (omega (arith, some))
from_root (b ∷ path) tail some (inl none) = absurd (cc none)
from_root (b ∷ path) tail some (inr slash) = (path ++ tail, ap (λ x. x ∷ (path ++ tail)) slash)

pub may_be_sent : (url : Parts) (text : List ℕ) → IsValid url → has_host url ≡ true → kind_of url ≡ SpecialNotFile → option_map host_text (nonempty_host url) ≡ Some text → IsSendable text (http_path url)
may_be_sent url text valid some kind named =
    let tail : List ℕ = when (is_some url.query) (codes "?") ++ unwrap_or url.query [] in
    let found = hosted_by url.host text (rw some at named) in
    let host : IsHostOf (kind_of url) found.0 = rw found.1 at valid.head.host in
    let path : IsHierarchicalPath (kind_of url) url.path = hierarchical url valid.path (base_from_authority url (ap is_some found.1)) in
    let start = from_root url.path tail (path.1 (ap is_special kind)) (rooted (kind_of url) url.path path.0) in
    let P = λ (b : ℕ). IsTrue (is_visible b) in
    record {
      named = subst (λ t. 0 < length t) found.2 (host_named found.0 (subst (λ k. IsHostOf k found.0) kind host));
      host_seen = subst (All P) found.2 (host_seen (kind_of url) found.0 host);
      below = start.0;
      rooted = start.1;
      path_seen = All-append P url.path tail (All_kept is_visible PATH refl url.path (segment_list_kept (kind_of url) url.path path.0))
          (All-append P (when (is_some url.query) (codes "?")) (unwrap_or url.query []) (All_one P (is_some url.query) 63 refl)
          (All_part P (query_set (kind_of url)) url.query (query_seen (kind_of url)) valid.query));
    }
