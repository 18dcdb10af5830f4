-- What a call of the graph on the one object of an open is to be read from.
use Rattle.std.proofs.Common.{◌≡◌, ℕ, ◌≤◌, Bool, true, false, cond, eqb, List, [], ◌++◌, refl, sym, ap, ◌∙◌, subst, arith, if◌then◌else◌}
use Rattle.std.proofs.lemmas.Bool.{eq-eqb}
use Rattle.std.proofs.lemmas.List.{append-nil}
use Rattle.nb_terms.specs.declared.cause.Cause.{Cause}
use Rattle.nb_ledger.specs.declared.port.PortState.{PortState}
use Rattle.nb_ledger.specs.declared.port.PortState.TheVariants as port
use Rattle.nb_ledger.specs.declared.event.GraphEvent.TheVariants.{Closed}
use Rattle.nb_ledger.specs.Flat.{Heard, Given}
use Rattle.nb_ledger.specs.GraphRun.{GraphRunOf, but_at}
use Rattle.nb_ledger.specs.Ledger.{object_lives, holds, run_state}
use Rattle.nb_ledger.proofs.PortLemmas.{held-live}
use Rattle.nb_graph.specs.Trace.{NodeEntry}
use Rattle.nb_graph.specs.Deeds.{Deed, Stage, events_of, told_of, trace_after}
use Rattle.nb_graph.specs.Hosts.{Hosts}
use Rattle.nb_graph.specs.Lived.{ObjectStands}
use Rattle.nb_graph.specs.Noded.{AreNoded}
use Rattle.nb_graph.specs.Scene.{Scene, scene_of, shut_of, after_noted}
use Rattle.nb_graph.specs.Went.{WentOne, all_of}
use Rattle.nb_graph.specs.Whole.{Objects, port_at, node_at}
use Rattle.nb_graph.proofs.Laws.{only_call}
use Rattle.nb_graph.proofs.MarkLemmas.{BeginsNone, mark_stays}
use Rattle.nb_nodes.specs.declared.load.Load.{Load}
use Rattle.nb_nodes.specs.declared.obj.Obj.{Obj}
use Rattle.nb_nodes.specs.declared.obj.Obj.TheVariants as obj
use Rattle.nb_nodes.specs.declared.stage.Stage.{Stage as CoreStage}
use Rattle.nb_nodes.specs.Objects.{obj_nature, rank_of_obj, mark_of_obj, is_handed}
use Rattle.nb_nodes.specs.Exchanges.{Service, AskerState, not_begun, asking, finished, called_off, AskerLeadsTo, AskerIsAt, before_it, during_it, after_it, without_it, StandsBy, StandsMeets}
use Rattle.nb_nodes.specs.LookupExchanges.{lookup_service}
use Rattle.nb_nodes.specs.LeaseExchanges.{lease_service}
use Rattle.nb_nodes.specs.EchoExchanges.{ping_service}
use Rattle.nb_nodes.specs.Standing.{ObjStands}
use Rattle.nb_opens.specs.Entries.{entries_of}
use Rattle.nb_opens.specs.Alones.{IsLone, IsOpenLone}
use Rattle.nb_opens.specs.Marks.{IsOfKind}
use Rattle.nb_opens.proofs.HoldLemmas.{held_stays}
use Rattle.nb_opens.proofs.QuietLemmas.{AreQuiet, LeavesObject, quiet_run, begins_none}
use Rattle.nb_opens.proofs.LoneExchanges.{CallsAre, IsCertain, exchange_goes_on}
use Rattle.nb_opens.proofs.LoneCertain.{LookAsks, certain_look, LeaseAsks, certain_lease, PingAsks, certain_ping}
use Rattle.nb_opens.proofs.LoneWalks.{Walk}

-- the calls of an exchange meet the promises
abbrev pub MeetsAt : {S B C : Type 0} → Service S B C → AskerState B C → Type 0
MeetsAt s not_begun = Unit {0}
MeetsAt s (asking b start calls) = s.meets b start calls
MeetsAt s (finished b start calls) = s.meets b start calls
MeetsAt s called_off = Unit {0}

-- what is known of a kind of object: its number is that of a node that stands by the service
pub record IsKind {S B C : Type 0} (s : Service S B C) (asks : B → List C → Type 0) (kind : ℕ) : Type 0 where
  pub certain : IsCertain s asks
  pub known : (b : B) (start : ℕ) (calls : List C) → s.meets b start calls → asks b calls
  pub met : StandsMeets s
  pub hosted : (n : Obj) (t : List (NodeEntry Obj Load)) → mark_of_obj n ≡ kind → ObjStands n t → (stage : CoreStage S) × StandsBy s stage t

small_mark : (b : Bool) (k : ℕ) → 5 ≤ k → (if b then 1 else 0) ≡ k → ⊥
small_mark true k h e = omega (arith, h, e)
small_mark false k h e = omega (arith, h, e)

pub look_kind : IsKind lookup_service LookAsks 5
look_kind = record {
  certain = certain_look;
  known = λ b start calls h. h.asking;
  met = λ b start core calls h. h.meets;
  hosted = hosts;
} where
  hosts : (n : Obj) (t : List (NodeEntry Obj Load)) → mark_of_obj n ≡ 5 → ObjStands n t → (stage : CoreStage _) × StandsBy lookup_service stage t
  hosts (obj.Fetch f) t e h = absurd (small_mark (is_handed f) 5 (omega arith) e)
  hosts (obj.Tftp p) t e h = absurd (omega (arith, e))
  hosts (obj.Resolver r) t e h = (r.value.stage, h)
  hosts (obj.Dhcp d) t e h = absurd (omega (arith, e))
  hosts (obj.Ping p) t e h = absurd (omega (arith, e))
  hosts (obj.Http p) t e h = absurd (omega (arith, e))
  hosts (obj.Tcp p) t e h = absurd (omega (arith, e))
  hosts (obj.Iscsi p) t e h = absurd (omega (arith, e))
  hosts (obj.Disk p) t e h = absurd (omega (arith, e))

pub lease_kind : IsKind lease_service LeaseAsks 6
lease_kind = record {
  certain = certain_lease;
  known = λ b start calls h. h.sending;
  met = λ b start core calls h. h.meets;
  hosted = hosts;
} where
  hosts : (n : Obj) (t : List (NodeEntry Obj Load)) → mark_of_obj n ≡ 6 → ObjStands n t → (stage : CoreStage _) × StandsBy lease_service stage t
  hosts (obj.Fetch f) t e h = absurd (small_mark (is_handed f) 6 (omega arith) e)
  hosts (obj.Tftp p) t e h = absurd (omega (arith, e))
  hosts (obj.Resolver r) t e h = absurd (omega (arith, e))
  hosts (obj.Dhcp d) t e h = (d.value.stage, h)
  hosts (obj.Ping p) t e h = absurd (omega (arith, e))
  hosts (obj.Http p) t e h = absurd (omega (arith, e))
  hosts (obj.Tcp p) t e h = absurd (omega (arith, e))
  hosts (obj.Iscsi p) t e h = absurd (omega (arith, e))
  hosts (obj.Disk p) t e h = absurd (omega (arith, e))

pub ping_kind : IsKind ping_service PingAsks 7
ping_kind = record {
  certain = certain_ping;
  known = λ b start calls h. h.asking;
  met = λ b start core calls h. h.meets;
  hosted = hosts;
} where
  hosts : (n : Obj) (t : List (NodeEntry Obj Load)) → mark_of_obj n ≡ 7 → ObjStands n t → (stage : CoreStage _) × StandsBy ping_service stage t
  hosts (obj.Fetch f) t e h = absurd (small_mark (is_handed f) 7 (omega arith) e)
  hosts (obj.Tftp p) t e h = absurd (omega (arith, e))
  hosts (obj.Resolver r) t e h = absurd (omega (arith, e))
  hosts (obj.Dhcp d) t e h = absurd (omega (arith, e))
  hosts (obj.Ping p) t e h = (p.value.stage, h)
  hosts (obj.Http p) t e h = absurd (omega (arith, e))
  hosts (obj.Tcp p) t e h = absurd (omega (arith, e))
  hosts (obj.Iscsi p) t e h = absurd (omega (arith, e))
  hosts (obj.Disk p) t e h = absurd (omega (arith, e))

meets_at : {S B C : Type 0} (s : Service S B C) (stage : CoreStage S) (v : AskerState B C) → StandsMeets s → AskerIsAt s stage v → MeetsAt s v
meets_at s _ _ met before_it = tt
meets_at s _ _ met (during_it b start calls core stands alive) = met b start core calls stands
meets_at s _ _ met (after_it b start calls h) = h
meets_at s _ _ met without_it = tt

calls_are : {S B C : Type 0} (s : Service S B C) (asks : B → List C → Type 0) (kind : ℕ) (v : AskerState B C) → IsKind s asks kind → MeetsAt s v → CallsAre asks v
calls_are s asks kind not_begun law h = tt
calls_are s asks kind (asking b start calls) law h = law.known b start calls h
calls_are s asks kind (finished b start calls) law h = law.known b start calls h
calls_are s asks kind called_off law h = tt

-- what is seen of a graph where nothing but x lives
pub record Seen (s : Scene) (x : ℕ) (slots : ℕ → PortState) : Type 0 where
  pub last : s.made ≡ x
  pub lives : s.live x ≡ true
  pub others : (y : ℕ) → (y ≡ x → ⊥) → s.live y ≡ false
  pub ports : (k : ℕ) → s.port x k ≡ slots k

pub seen_lone : (g : Objects Obj) (x : ℕ) (f : ℕ → PortState) → IsLone g x f → Seen (scene_of g.book) x f
seen_lone g x f l = record { last = l.last; lives = l.lives; others = l.others; ports = l.ports }

pub lone_seen : (h : Objects Obj) (x : ℕ) (f : ℕ → PortState) → Seen (scene_of h.book) x f → holds h.book x ≡ 1 → IsLone h x f
lone_seen h x f s held = record { last = s.last; lives = s.lives; others = s.others; held = held; ports = s.ports }

pub seen_closed : (s : Scene) (x j : ℕ) (c : Cause) (f : ℕ → PortState) → Seen s x f → f j ≡ port.Open → Seen (after_noted (Closed (port_at x j) c) s) x (λ k. but_at j port.Closed f k)
seen_closed s x j c f h o = record {
  last = h.last;
  lives = h.lives;
  others = h.others;
  ports = λ k. rw (eq-eqb x x refl) (ap (λ z. cond (eqb k j) (shut_of z) (s.port x k)) (h.ports j ∙ o) ∙ ap (λ z. cond (eqb k j) port.Closed z) (h.ports k));
}

-- what a call is to be read from
pub record LoneStarted {S B C : Type 0} (svc : Service S B C) (kind : ℕ) (g h : Objects Obj) (m n : Heard) (now x : ℕ) (asks : List (Stage Obj Load)) (v : AskerState B C) : Type 0 where
  pub deeds : List (Deed Obj Load)
  pub told : Given m n (told_of deeds)
  pub last : AskerState B C
  pub walk : Walk svc now x (scene_of h.book) last (scene_of g.book) asks v [] deeds
  pub top : List (NodeEntry Obj Load)
  pub stands : ObjectStands ObjStands h x top
  pub run : AskerLeadsTo svc not_begun top last
  pub meets : MeetsAt svc last
  pub of_kind : IsOfKind h x kind
  pub held : holds h.book x ≡ 1

module _ {S B C : Type 0} (svc : Service S B C) (known : B → List C → Type 0) (kind : ℕ) (law : IsKind svc known kind) (g h : Objects Obj) (m n : Heard) (now x : ℕ) (asks : List (Stage Obj Load)) (trace : List (NodeEntry Obj Load)) (v : AskerState B C) where
  pub lone_started : IsOpenLone g x → ObjectStands ObjStands g x trace → AskerLeadsTo svc not_begun trace v → MeetsAt svc v → IsOfKind g x kind → AreNoded rank_of_obj h → AreQuiet x asks
      → WentOne ObjStands obj_nature now asks g h m n → LoneStarted svc kind g h m n now x asks v
  lone_started lone stands run meets is noded quiet k =
      let one = only_call obj_nature (scene_of g.book) (scene_of h.book) (record { now = now; asks = asks }) k.deeds k.each in
      let ds = one.0 in
      let all : all_of k.deeds ≡ ds = ap all_of one.1 ∙ append-nil ds in
      let made : x ≤ g.book.made = omega (arith, lone.last) in
      let calm : LeavesObject obj_nature x ds = quiet_run obj_nature now x x _ _ asks ds (omega arith) quiet made one.2 in
      let none : BeginsNone x ds = begins_none obj_nature now x x _ _ asks ds (omega arith) quiet made one.2 in
      let hosts : Hosts obj_nature ObjStands (node_at g) ds (node_at h) = subst (λ z. Hosts obj_nature ObjStands (node_at g) z (node_at h)) all k.hosts in
      let went : GraphRunOf (run_state g.book []) (events_of ds) (run_state h.book []) = subst (λ z. GraphRunOf (run_state g.book []) z (run_state h.book [])) (sym k.events ∙ ap events_of all) k.runs.run in
      let stay = held_stays x (events_of ds) (run_state g.book []) (run_state h.book []) went (omega (arith, lone.held)) tt calm.0 in
      let held : holds h.book x ≡ 1 = stay.0 ∙ lone.held in
      let lives : object_lives h.book x ≡ true = held-live h.book x (omega (arith, held)) in
      let top : ObjectStands ObjStands h x (trace ++ entries_of x ds) = subst (ObjectStands ObjStands h x) (ap (trace_after x trace) all ∙ calm.1 trace) (k.keeps x trace stands) in
      let of_kind : IsOfKind h x kind = mark_stays obj_nature ObjStands (node_at g) (node_at h) x kind ds none hosts is in
      let node = noded x lives in
      let host = law.hosted node.node (trace ++ entries_of x ds) (of_kind node.node node.is_node) (top node.node node.is_node).0 in
      let w : AskerState B C = host.1.exchange in
      let met : MeetsAt svc w = meets_at svc host.0 w law.met host.1.at in
      record {
        deeds = ds;
        told = subst (λ z. Given m n (told_of z)) all k.tells;
        last = w;
        walk = record {
          left = ds;
          told = refl;
          uses = one.2;
          runs = exchange_goes_on svc known law.certain trace (entries_of x ds) v w run (calls_are svc known kind v law meets) host.1.run (calls_are svc known kind w law met);
          stays = stay.1.0;
        };
        top = trace ++ entries_of x ds;
        stands = top;
        run = host.1.run;
        meets = met;
        of_kind = of_kind;
        held = held;
      }

  -- what was told doesn't depend on what is under way
  pub lone_told : (lone : IsOpenLone g x) (stands : ObjectStands ObjStands g x trace) (run : AskerLeadsTo svc not_begun trace v) (meets : MeetsAt svc v) (is : IsOfKind g x kind) (noded : AreNoded rank_of_obj h) (quiet : AreQuiet x asks)
      → (k : WentOne ObjStands obj_nature now asks g h m n) → told_of (lone_started lone stands run meets is noded quiet k).deeds ≡ told_of (all_of k.deeds)
  unfolding lone_started
  lone_told lone stands run meets is noded quiet k =
      let one = only_call obj_nature (scene_of g.book) (scene_of h.book) (record { now = now; asks = asks }) k.deeds k.each in
      ap told_of (sym (ap all_of one.1 ∙ append-nil one.0))
