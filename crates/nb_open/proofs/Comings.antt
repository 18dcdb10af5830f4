-- What has come of a call on an open's objects, and so what may become of them.
use Rattle.std.proofs.Common.{◌≡◌, ℕ, false, List, Some, None, sym, ◌∙◌}
use Rattle.nb_terms.specs.declared.cause.Cause.{Cause}
use Rattle.nb_ledger.specs.Flat.{Given, Notice}
use Rattle.nb_graph.specs.Deeds.{no_memory}
use Rattle.nb_graph.specs.Whole.{Objects}
use Rattle.nb_nodes.specs.declared.obj.Obj.{Obj}
use Rattle.nb_opens.specs.Notices.{first_close}
use Rattle.nb_stack.specs.Client.{Client}
use Rattle.nb_wire.specs.declared.address.Ip4.{Ip4}
use Rattle.nb_chains.specs.declared.chain.Chain.{Chain}
use Rattle.nb_chains.specs.declared.kind.ChainKind.{ChainKind}
use Rattle.nb_chains.specs.Calls.{ComesOf, stays_under_way, has_closed, has_failed}
use Rattle.nb_chains.proofs.Opened.{under_way_open}
use Rattle.nb_webchains.specs.declared.web_chain.WebChain.{WebChain}
use Rattle.nb_webchains.specs.WebCalls.{ComesOfWeb, goes_on, has_closed as web_closed}
use Rattle.nb_drivechains.specs.declared.drive_chain.DriveChain.{DriveChain}
use Rattle.nb_drivechains.specs.DriveChains.{three_of}
use Rattle.nb_teller.specs.declared.teller.Teller.{Teller}
use Rattle.nb_teller.specs.Spelling.{IsBlank, IsSpelled, Spelling}
use Rattle.nb_teller.proofs.SpellingLemmas.{spelled_is}
use Rattle.nb_teller.proofs.Tellers.{named}
use Rattle.nb_open.specs.declared.objects.OpenObjects.{OpenObjects}
use Rattle.nb_open.specs.declared.objects.OpenObjects.TheVariants as objects
use Rattle.nb_open.specs.declared.open.Open.{Open}
use Rattle.nb_open.specs.Objects.{AreObjectsOpen, AreObjectsShut}
use Rattle.nb_open.specs.Settling.{MaySettle, told_so_far}

-- nothing was closed; or all is, with the cause of the first close; or memory ran out
pub data ComesOfObjects (o : OpenObjects) (g : Objects Obj) (ns : List Notice) : Type 0 where
  go_on : first_close ns ≡ None → AreObjectsOpen o g → ComesOfObjects o g ns
  have_closed : (cause : Cause) → first_close ns ≡ Some cause → AreObjectsShut o g → ComesOfObjects o g ns
  have_failed : first_close ns ≡ Some no_memory → ComesOfObjects o g ns

pub chain_comes : (kind by : ChainKind) (c : Chain) (g : Objects Obj) (ns : List Notice) → ComesOf by c g ns → ComesOfObjects (objects.Chain kind c) g ns
chain_comes kind by c g ns (stays_under_way none going) = go_on none (under_way_open by c g going)
chain_comes kind by c g ns (has_closed cause closes shut) = have_closed cause closes shut
chain_comes kind by c g ns (has_failed memory) = have_failed memory

pub web_comes : (port : ℕ) (own : Ip4) (c : WebChain) (g : Objects Obj) (ns : List Notice) → ComesOfWeb c g ns → ComesOfObjects (objects.Web port own c) g ns
web_comes port own c g ns (goes_on none is_open) = go_on none is_open
web_comes port own c g ns (web_closed cause closes shut) = have_closed cause closes shut

pub drive_comes : (port : ℕ) (own : Ip4) (c : DriveChain) (g : Objects Obj) (ns : List Notice) → ComesOfWeb (three_of c) g ns → ComesOfObjects (objects.Drive port own c) g ns
drive_comes port own c g ns (goes_on none is_open) = go_on none is_open
drive_comes port own c g ns (web_closed cause closes shut) = have_closed cause closes shut

-- they may be let go where a call has closed them
pub may_settle : (o : Open) (net : Client) (mid : Objects Obj) (s : Spelling) (ns : List Notice) → (s.is_lost ≡ false → IsSpelled net o.speaker s ns) → ComesOfObjects o.objects mid ns → MaySettle o s mid
may_settle o net mid s ns spelled (go_on none is_open) = record {
  shut = λ c has. absurd (let no : Some c ≡ None = sym has.1 ∙ ((spelled has.0).2 ∙ none) in cc);
  unshut = λ has. is_open;
}
may_settle o net mid s ns spelled (have_closed cause closes shut) = record {
  shut = λ d has. shut;
  unshut = λ has. absurd (let no : Some cause ≡ None = sym closes ∙ (sym (spelled has.0).2 ∙ has.1) in cc);
}
may_settle o net mid s ns spelled (have_failed memory) = record {
  shut = λ d has. absurd (has.2 (sym has.1 ∙ ((spelled has.0).2 ∙ memory)));
  unshut = λ has. absurd (has.2 (sym has.1 ∙ ((spelled has.0).2 ∙ memory)));
}

-- a call of the open is spelled, unless some of it is lost
pub spelled_by : (o : Open) (net : Client) (before after : Teller) → before.net.now ≡ net → before.who.now ≡ o.speaker → IsBlank before.told.value → (ns : List Notice) → Given (told_so_far before) (told_so_far after) ns → after.told.value.is_lost ≡ false →
    IsSpelled net o.speaker after.told.value ns
spelled_by o net before after same_net same_who blank ns given kept =
    spelled_is net after.net.now o.speaker after.who.now before.told.value after.told.value ns blank (named net o.speaker before (λ h. Given h (told_so_far after) ns) same_net same_who given) kept
