-- In which order the notices of a call stand, for whatever may be under way.
use Rattle.std.proofs.Common.{inl, inr, ℕ, ◌<◌, List, [], Option, Some, None, refl, sym, subst}
use Rattle.std.specs.List.{AllByRecursion}
use Rattle.nb_ledger.specs.declared.event.GraphEvent.TheVariants.{Entered}
use Rattle.nb_ledger.specs.declared.event.Way.{Way}
use Rattle.nb_ledger.specs.declared.event.Way.TheVariants as way
use Rattle.nb_ledger.specs.declared.port.Port.{Port}
use Rattle.nb_ledger.specs.Flat.{Notice}
use Rattle.nb_graph.specs.Trace.{Said}
use Rattle.nb_graph.specs.Whole.{Objects, port_at}
use Rattle.nb_nodes.specs.declared.obj.Obj.{Obj}
use Rattle.nb_nodes.specs.Conversations.{first_acts}
use Rattle.nb_nodes.specs.EchoExchanges.{ping_service}
use Rattle.nb_nodes.specs.Exchanges.{Service}
use Rattle.nb_nodes.specs.LeaseExchanges.{lease_said, lease_service}
use Rattle.nb_nodes.specs.LookupExchanges.{address_said, lookup_service}
use Rattle.nb_opens.specs.Alones.{AsksMore, Begins, AsksOrIgnores, asks_on, comes_to_end, fails_at_once as fails_one, fails_before, is_ignored, is_taken, runs_out, starts}
use Rattle.nb_opens.specs.Pairs.{BeginDoes, CallDoes, begins, fails, fails_at_once, goes_on, is_over, is_too_large}
use Rattle.nb_tftp.specs.Asks.{Begun}
use Rattle.nb_tftp.specs.History.{Call, Entry}
use Rattle.nb_wire.specs.declared.address.Ip4.{Ip4}
use Rattle.nb_chains.specs.Shapes.{HasShape, HasShapeOrFails, IsTagUp}
use Rattle.nb_chains.proofs.ShapesOf.{alone_shape, asked_shape, begun_shape, call_shape, ignored_shape, large_shape}

-- TWO

pub two_begun : (g : Objects Obj) (f t : ℕ) (b : Begun) (now rec : ℕ) (ns : List Notice) → BeginDoes g f t b now rec ns → HasShapeOrFails t None ns
two_begun g f t b now rec ns (begins e d) = inl (subst (HasShape t None) (sym e) (begun_shape f t rec (first_acts b)))
two_begun g f t b now rec ns (fails_at_once e) = inr e

pub two_called : (g : Objects Obj) (f t : ℕ) (b : Begun) (start : ℕ) (calls : List Entry) (body : List ℕ) (p : Port) (by : Way) (rec : ℕ) (call : Call) (ns : List Notice) → f < t → CallDoes g f t b start calls body p by rec call ns
    → HasShapeOrFails t (Some (Entered p by)) ns
two_called g f t b start calls body p by rec call ns lt (goes_on acts _ _ _ e _) = inl (subst (HasShape t (Some (Entered p by))) (sym e) (call_shape f t lt p by rec acts))
two_called g f t b start calls body p by rec call ns lt (is_over acts _ _ _ _ e _) = inl (subst (HasShape t (Some (Entered p by))) (sym e) (call_shape f t lt p by rec acts))
two_called g f t b start calls body p by rec call ns lt (is_too_large acts _ _ e _) = inl (subst (HasShape t (Some (Entered p by))) (sym e) (large_shape f t lt p by rec acts))
two_called g f t b start calls body p by rec call ns lt (fails e) = inr e

-- ONE

-- what such an object gives up is for the user
abbrev pub GivesUp : {S B C : Type 0} → Service S B C → Type 0
GivesUp {S} {B} {C} s = (rec : ℕ) (b : B) (calls : List C) (given : List Said) → s.gives rec b calls given → AllByRecursion (λ (m : Said). IsTagUp m.tag) given

address_up : (rec : ℕ) (found : Option Ip4) → AllByRecursion (λ (m : Said). IsTagUp m.tag) (address_said rec found)
address_up rec None = tt
address_up rec (Some a) = (inr refl, tt)

lease_up : (rec : ℕ) (bytes : Option (List ℕ)) → AllByRecursion (λ (m : Said). IsTagUp m.tag) (lease_said rec bytes)
lease_up rec None = tt
lease_up rec (Some bytes) = (inl refl, tt)

pub lookup_gives : GivesUp lookup_service
lookup_gives rec b calls given h = subst (AllByRecursion (λ (m : Said). IsTagUp m.tag)) (sym h.goes_up) (address_up rec h.found)

pub lease_gives : GivesUp lease_service
lease_gives rec b calls given h = subst (AllByRecursion (λ (m : Said). IsTagUp m.tag)) (sym h) (lease_up rec _)

pub ping_gives : GivesUp ping_service
ping_gives rec b calls given h = subst (AllByRecursion (λ (m : Said). IsTagUp m.tag)) (sym h) tt

module _ {S B C : Type 0} (s : Service S B C) (kind : ℕ) (g : Objects Obj) (x : ℕ) (b : B) where
  pub one_begun : (now rec : ℕ) (ns : List Notice) → Begins s kind g x b now rec ns → HasShapeOrFails x None ns
  one_begun now rec ns (starts e d) = inl (subst (HasShape x None) (sym e) (asked_shape x rec (s.opening b)))
  one_begun now rec ns (fails_one e) = inr e

  module _ (gives : GivesUp s) (start : ℕ) (calls : List C) where
    pub one_asks : (p : Port) (by : Way) (rec : ℕ) (call : _) (ns : List Notice) → AsksMore s kind g x b start calls p by rec call ns → HasShapeOrFails x (Some (Entered p by)) ns
    one_asks p by rec call ns (asks_on acts _ _ e _) = inl (subst (HasShape x (Some (Entered p by))) (sym e) (alone_shape x p by rec acts [] tt))
    one_asks p by rec call ns (comes_to_end acts _ given _ _ h e _) = inl (subst (HasShape x (Some (Entered p by))) (sym e) (alone_shape x p by rec acts given (gives rec b _ given h)))
    one_asks p by rec call ns (runs_out e) = inr e

    pub one_receives : (m : Said) (now : ℕ) (ns : List Notice) → AsksOrIgnores s kind g x b start calls m now ns → HasShapeOrFails x (Some (Entered (port_at x 1) way.Up)) ns
    one_receives m now ns (is_taken _ more) = one_asks (port_at x 1) way.Up m.rec (s.received m now) ns more
    one_receives m now ns (is_ignored _ e _) = inl (subst (HasShape x (Some (Entered (port_at x 1) way.Up))) (sym e) (ignored_shape x (port_at x 1) way.Up))
    one_receives m now ns (fails_before e) = inr e
