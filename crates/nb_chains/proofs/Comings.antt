-- What has come of a call, by its first close, for whatever may be under way.
use Rattle.std.proofs.Common.{◌≡◌, ℕ, List, [], ◌∷◌, ◌++◌, map, Option, Some, None, refl, sym, ap, ◌∙◌, subst}
use Rattle.nb_terms.specs.declared.acts.Acts.{Acts}
use Rattle.nb_terms.specs.declared.cause.Cause.{Cause}
use Rattle.nb_ledger.specs.declared.event.GraphEvent.TheVariants.{Left}
use Rattle.nb_ledger.specs.declared.event.Way.{Way}
use Rattle.nb_ledger.specs.declared.event.Way.TheVariants as way
use Rattle.nb_ledger.specs.declared.port.ObjId.{ObjId}
use Rattle.nb_ledger.specs.declared.port.Port.{Port}
use Rattle.nb_ledger.specs.Flat.{Notice}
use Rattle.nb_graph.specs.Trace.{Said}
use Rattle.nb_graph.specs.Whole.{Objects, port_at}
use Rattle.nb_nodes.specs.declared.obj.Obj.{Obj}
use Rattle.nb_nodes.specs.Carried.{downs_of}
use Rattle.nb_nodes.specs.Conversations.{first_acts}
use Rattle.nb_nodes.specs.Exchanges.{Service}
use Rattle.nb_nodes.specs.Fetches.{body_too_large}
use Rattle.nb_opens.specs.AloneNotices.{alone_call, alone_end}
use Rattle.nb_opens.specs.Alones.{AsksMore, Begins, IsShutLone, AsksOrIgnores, asks_on, comes_to_end, fails_at_once as fails_one, fails_before, is_ignored, is_taken, runs_out, starts}
use Rattle.nb_opens.specs.Notices.{begun_notices, call_notices, closed_late, down_notices, end_notices, first_close, large_notices, parted_notices, passed_on, sent_from, tells, too_many_notices, up_notices}
use Rattle.nb_opens.specs.Pairs.{BeginDoes, CallDoes, begins, fails, fails_at_once, goes_on, is_over, is_too_large}
use Rattle.nb_opens.proofs.CloseLemmas.{behind_none, sent_closes}
use Rattle.nb_tftp.specs.Asks.{Begun}
use Rattle.nb_tftp.specs.History.{Call, Entry}
use Rattle.nb_chains.specs.declared.chain.Chain.{Chain}
use Rattle.nb_chains.specs.declared.kind.ChainKind.{ChainKind}
use Rattle.nb_chains.specs.declared.kind.ChainKind.TheVariants.{File}
use Rattle.nb_chains.specs.Calls.{ComesOf, IsChainUnderWay, IsTalking, has_closed, has_failed, stays_under_way}
use Rattle.nb_chains.specs.Chains.{IsShutBy, IsShutChain, own_graph}

-- THE FIRST CLOSE

-- of a call on two it is the transfer's end
pub call_close : (f t : ℕ) (p : Port) (by : Way) (rec : ℕ) (acts : Acts) → first_close (call_notices f t p by rec acts) ≡ acts.over
call_close f t p by rec acts =
    behind_none (down_notices t rec acts) (up_notices f acts.give ++ (end_notices f t acts.over ++ (tells (Left p) ∷ []))) (sent_closes (port_at t 1) (downs_of rec acts)) ∙ (ups acts.give ∙ over acts.over)
  where
    ups : (give : Option (ℕ × ℕ)) → first_close (up_notices f give ++ (end_notices f t acts.over ++ (tells (Left p) ∷ []))) ≡ first_close (end_notices f t acts.over ++ (tells (Left p) ∷ []))
    ups None = refl
    ups (Some range) = refl

    over : (c : Option Cause) → first_close (end_notices f t c ++ (tells (Left p) ∷ [])) ≡ c
    over None = refl
    over (Some c) = refl

pub large_close : (f t : ℕ) (p : Port) (by : Way) (rec : ℕ) (acts : Acts) → first_close (large_notices f t p by rec acts) ≡ Some body_too_large
large_close f t p by rec acts =
    behind_none (down_notices t rec acts) (too_many_notices f t ++ (passed_on t acts.over ++ (parted_notices f t ++ (closed_late t acts.over ++ (tells (Left p) ∷ []))))) (sent_closes (port_at t 1) (downs_of rec acts))

pub begun_close : (f t rec : ℕ) (acts : Acts) → first_close (begun_notices f t rec acts) ≡ None
begun_close f t rec acts = behind_none (down_notices t rec acts) (tells (Left (port_at t 0)) ∷ tells (Left (port_at f 0)) ∷ []) (sent_closes (port_at t 1) (downs_of rec acts))

-- of a call on one it is its core's end
pub alone_close : (x : ℕ) (p : Port) (by : Way) (rec : ℕ) (acts : Acts) (given : List Said) → first_close (alone_call x p by rec acts given) ≡ acts.over
alone_close x p by rec acts given =
    behind_none (map (sent_from (port_at x 1)) (downs_of rec acts)) (map (sent_from (port_at x 0)) given ++ (alone_end x acts.over ++ (tells (Left p) ∷ []))) (sent_closes (port_at x 1) (downs_of rec acts))
    ∙ (behind_none (map (sent_from (port_at x 0)) given) (alone_end x acts.over ++ (tells (Left p) ∷ [])) (sent_closes (port_at x 0) given) ∙ over acts.over)
  where
    over : (c : Option Cause) → first_close (alone_end x c ++ (tells (Left p) ∷ [])) ≡ c
    over None = refl
    over (Some c) = refl

-- WHAT HAS COME OF IT

module _ (c : Chain) (g : Objects Obj) (t : ObjId) (e : c.below ≡ Some t) where
  shut_two : IsShutBy (Some t) c.top.0 (own_graph c g) → IsShutChain c g
  shut_two s = subst (λ (b : Option ObjId). IsShutBy b c.top.0 (own_graph c g)) (sym e) s

  pub two_comes : (b : Begun) (start : ℕ) (calls : List Entry) (body : List ℕ) (p : Port) (by : Way) (rec : ℕ) (call : Call) (ns : List Notice) → CallDoes (own_graph c g) c.top.0 t.0 b start calls body p by rec call ns → ComesOf File c g ns
  two_comes b start calls body p by rec call ns (goes_on acts _ none _ same d) = stays_under_way (ap first_close same ∙ (call_close c.top.0 t.0 p by rec acts ∙ none)) (t, e, (b, start, _, _, d))
  two_comes b start calls body p by rec call ns (is_over acts z _ over _ same ended) = has_closed z (ap first_close same ∙ (call_close c.top.0 t.0 p by rec acts ∙ over)) (shut_two ended.shut)
  two_comes b start calls body p by rec call ns (is_too_large acts _ _ same ended) = has_closed body_too_large (ap first_close same ∙ large_close c.top.0 t.0 p by rec acts) (shut_two ended.shut)
  two_comes b start calls body p by rec call ns (fails z) = has_failed z

  pub two_begins : (b : Begun) (now rec : ℕ) (ns : List Notice) → BeginDoes (own_graph c g) c.top.0 t.0 b now rec ns → ComesOf File c g ns
  two_begins b now rec ns (begins same d) = stays_under_way (ap first_close same ∙ begun_close c.top.0 t.0 rec (first_acts b)) (t, e, (b, now, _, _, d))
  two_begins b now rec ns (fails_at_once z) = has_failed z

-- one that asks by itself, of some kind
module _ (c : Chain) (g : Objects Obj) (e : c.below ≡ None) (of : ChainKind) {S B C : Type 0} (s : Service S B C) (kind : ℕ) (is : IsTalking s kind (own_graph c g) c.top.0 → IsChainUnderWay of c g) (b : B) where
  shut_one : IsShutLone (own_graph c g) c.top.0 → IsShutChain c g
  shut_one l = subst (λ (w : Option ObjId). IsShutBy w c.top.0 (own_graph c g)) (sym e) l

  pub one_begins : (now rec : ℕ) (ns : List Notice) → (s.opening b).over ≡ None → Begins s kind (own_graph c g) c.top.0 b now rec ns → ComesOf of c g ns
  one_begins now rec ns none (starts same d) = stays_under_way (ap first_close same ∙ (alone_close c.top.0 (port_at c.top.0 0) way.Down rec (s.opening b) [] ∙ none)) (is (b, now, [], d))
  one_begins now rec ns none (fails_one z) = has_failed z

  module _ (start : ℕ) (calls : List C) where
    pub one_comes : (p : Port) (by : Way) (rec : ℕ) (call : Acts → C) (ns : List Notice) → AsksMore s kind (own_graph c g) c.top.0 b start calls p by rec call ns → ComesOf of c g ns
    one_comes p by rec call ns (asks_on acts _ none same d) = stays_under_way (ap first_close same ∙ (alone_close c.top.0 p by rec acts [] ∙ none)) (is (b, start, _, d))
    one_comes p by rec call ns (comes_to_end acts z given _ over _ same l) = has_closed z (ap first_close same ∙ (alone_close c.top.0 p by rec acts given ∙ over)) (shut_one l)
    one_comes p by rec call ns (runs_out z) = has_failed z

    pub one_receives_so : (m : Said) (now : ℕ) (ns : List Notice) → AsksOrIgnores s kind (own_graph c g) c.top.0 b start calls m now ns → ComesOf of c g ns
    one_receives_so m now ns (is_taken _ more) = one_comes (port_at c.top.0 1) way.Up m.rec (s.received m now) ns more
    one_receives_so m now ns (is_ignored _ same d) = stays_under_way (ap first_close same) (is (b, start, calls, d))
    one_receives_so m now ns (fails_before z) = has_failed z
