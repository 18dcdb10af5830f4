-- What a call of the Tftp asks for runs: datagrams leave, bytes of the file go up, and the transfer ends or goes on.
use Rattle.std.proofs.Common.{refl, ◌≡◌, inl, inr, ℕ, ◌<◌, ◌≤◌, Bool, true, false, List, [], ◌∷◌, ◌++◌, map, length, Option, Some, None, sym, ap, ◌∙◌, subst, append_assoc, if◌then◌else◌, arith}
use Rattle.std.specs.Option.{is_some}
use Rattle.std.proofs.lemmas.List.{append-nil}
use Rattle.std.proofs.lemmas.Bool.Decides.{leb_tells}
use Rattle.nb_terms.specs.declared.acts.Acts.{Acts}
use Rattle.nb_terms.specs.declared.cause.Cause.{Cause}
use Rattle.nb_ledger.specs.declared.port.Port.{Port}
use Rattle.nb_ledger.specs.declared.port.PortState.TheVariants.{Open, Linked, Closed as Shut}
use Rattle.nb_ledger.specs.declared.event.Way.{Way}
use Rattle.nb_ledger.specs.declared.event.Way.TheVariants as way
use Rattle.nb_ledger.specs.declared.event.GraphEvent.TheVariants.{Entered, Left, Dropped, Closed, Unplugged}
use Rattle.nb_ledger.specs.Flat.{Notice}
use Rattle.nb_effects.specs.declared.effects.Fx.{Fx}
use Rattle.nb_graph.specs.Whole.{port_at}
use Rattle.nb_graph.specs.Trace.{NodeEntry, Said, up, lent, left, said_behind}
use Rattle.nb_graph.specs.Deeds.{Deed, Stage, Holds, Closes, Settles, told_of, closes_of, returns_of, all_closes, few_of, settles_by, runs_of, rest, no_memory}
use Rattle.nb_graph.specs.Scene.{Scene}
use Rattle.nb_tftp.specs.Asks.{Begun}
use Rattle.nb_tftp.specs.History.{Entry as Step}
use Rattle.nb_nodes.specs.declared.load.Load.{Load}
use Rattle.nb_nodes.specs.declared.obj.Obj.{Obj}
use Rattle.nb_nodes.specs.Objects.{obj_nature}
use Rattle.nb_nodes.specs.declared.tag.Tag.TheVariants.{Bytes}
use Rattle.nb_nodes.specs.Tags.{tag_number}
use Rattle.nb_nodes.specs.Carried.{EffectsOf, both_closes, up_emit, end_closes, downs_of}
use Rattle.nb_nodes.specs.Conversations.{Conversation, under_way, over, talk_went_on}
use Rattle.nb_nodes.specs.Fetches.{AsksOfFetch, body_too_large, gathers, taken_below, closed_well}
use Rattle.nb_opens.specs.Notices.{tells, sent_from, up_notices, end_notices, down_notices, call_notices, large_notices, passed_on, closed_late, first_close}
use Rattle.nb_opens.specs.Pairs.{BodyFits}
use Rattle.nb_opens.proofs.CloseLemmas.{behind_none, sent_closes}
use Rattle.nb_opens.proofs.Going.{Case, sends-up, closes-up}
use Rattle.nb_opens.proofs.Scenes.{Sees}
use Rattle.nb_opens.proofs.Effects.{At, then_at, as_stages, past_close, past_fetch_end, past_returns, past_returns_above, sends_few, runs_closes, runs_effects}
use Rattle.nb_opens.proofs.Bodies.{goes_up, takes_all, takes_none}
use Rattle.nb_opens.proofs.Ending.{all_told, Finishes, finishes}
use Rattle.nb_opens.proofs.Large.{grows_large}

-- the bytes that go up, as a message
abbrev up_said : Said → (ℕ × ℕ) → Said
up_said m range = record { tag = tag_number Bytes; rec = m.rec; a = 0; b = 0; bytes = goes_up m.bytes (Some range) }

-- what is told where the body is too large, from the Fetch's entry on
abbrev large_part : ℕ → ℕ → Port → Option Cause → List Notice
large_part f t p o =
    (tells (Entered (port_at f 1) way.Up) ∷ tells (Closed (port_at f 0) body_too_large) ∷ tells (Closed (port_at f 1) body_too_large)
    ∷ tells (Closed (port_at t 0) body_too_large) ∷ tells (Entered (port_at t 0) way.Close) ∷ [])
    ++ (passed_on t o
    ++ ((tells (Left (port_at t 0)) ∷ tells (Unplugged (port_at f 1) (port_at t 0)) ∷ tells (Dropped (port_at f 1)) ∷ tells (Left (port_at f 1)) ∷ [])
    ++ (closed_late t o ++ (tells (Left p) ∷ []))))

-- what becomes of it, by what was told after `front`
pub data Rises (c : Case) (o : Option Cause) (give : Option (ℕ × ℕ)) (p : Port) (v last : Conversation) (body : List ℕ) (front ns : List Notice) : Type 0 where
  fits : BodyFits body → ns ≡ front ++ (up_notices c.fetch give ++ (end_notices c.fetch c.tftp o ++ tells (Left p) ∷ [])) → Finishes c o v body → Rises c o give p v last body front ns
  large : 268435456 < length body → ns ≡ front ++ large_part c.fetch c.tftp p o → Sees c.end c.fetch c.tftp Shut Shut Shut Shut → closed_well c.above ≡ false → last ≡ c.talk → Rises c o give p v last body front ns
  breaks : (more : List Notice) → ns ≡ front ++ (tells (Entered (port_at c.fetch 1) way.Up) ∷ tells (Closed (port_at c.fetch 0) no_memory) ∷ more) → Rises c o give p v last body front ns

module _ (c : Case) (s : Scene) (a : List (NodeEntry Obj Load)) (b : Begun) (start : ℕ) (calls : List Step) (ns : List Notice) (ds : List (Deed Obj Load)) (p : Port) (by : Way) (o : Option Cause) (body : List ℕ)
    (lasts : settles_by {N = Obj} {L = Load} by p.obj.0 ≡ Settles c.tftp ∷ []) (seen : Sees s c.fetch c.tftp Open (Linked (port_at c.tftp 0)) (Linked (port_at c.fetch 1)) Open)
    (going : gathers a ≡ true) (taken : taken_below a ≡ body) (fit : BodyFits body) where
  abbrev talk : Conversation
  talk = if is_some o then over b start calls else under_way b start calls

  abbrev others : List (Stage Obj Load)
  others = closes_of c.tftp (end_closes o) ++ Holds p by None ∷ []

  -- the Fetch was called, and ran out of memory
  rises_broken : (m : Said) (range : ℕ × ℕ) (fx : Fx Obj Load) (d : List (NodeEntry Obj Load)) (u : Conversation) (body' : List ℕ)
      → At c s (runs_of obj_nature c.fetch m false fx ++ Holds (port_at c.fetch 1) way.Up None ∷ others) d talk (ns ++ tells (Entered (port_at c.fetch 1) way.Up) ∷ []) ds
      → Rises c o (Some range) p talk u body' ns (told_of ds)
  rises_broken m range fx d u body' k =
      let front = ns ++ tells (Entered (port_at c.fetch 1) way.Up) ∷ [] in
      let next : List (Stage Obj Load) = Holds (port_at c.fetch 1) way.Up None ∷ others in
      let k1 = as_stages (returns_of c.fetch (lent fx) ++ (all_closes c.fetch no_memory ++ next)) (append_assoc (returns_of c.fetch (lent fx)) (all_closes c.fetch no_memory) next) k in
      let k2 = past_returns_above c s (all_closes c.fetch no_memory ++ next) d talk front ds (lent fx) k1 in
      let k3 = past_close (Closes (port_at c.fetch 1) no_memory ∷ Closes (port_at c.fetch 2) no_memory ∷ Closes (port_at c.fetch 3) no_memory ∷ next) (port_at c.fetch 0) no_memory seen.fetch_0 k2.1 in
      let e : List Notice = tells (Entered (port_at c.fetch 1) way.Up) ∷ [] in
      let l : List Notice = tells (Closed (port_at c.fetch 0) no_memory) ∷ [] in
      breaks (told_of k3.left) (k3.told ∙ (append_assoc (ns ++ e) l (told_of k3.left) ∙ append_assoc ns e (l ++ told_of k3.left)))

  -- its body fits
  rises_fitting : (m : Said) (range : ℕ × ℕ) (fx : Fx Obj Load) → AsksOfFetch a (up 1 (up_said m range) c.now true fx) → length (body ++ goes_up m.bytes (Some range)) ≤ 268435456
      → At c s (runs_of obj_nature c.fetch (up_said m range) true fx ++ Holds (port_at c.fetch 1) way.Up (left fx.took (up_said m range)) ∷ others) (a ++ up 1 (up_said m range) c.now true fx ∷ []) talk (ns ++ tells (Entered (port_at c.fetch 1) way.Up) ∷ []) ds
      → Rises c o (Some range) p talk (over b start calls) (body ++ goes_up m.bytes (Some range)) ns (told_of ds)
  rises_fitting m range fx asks small k =
      let l = takes_all a body (up_said m range) c.now fx going taken asks small refl in
      let next : List (Stage Obj Load) = Holds (port_at c.fetch 1) way.Up (left fx.took (up_said m range)) ∷ others in
      let k1 = as_stages next (ap (λ w. w ++ next) (runs_closes c.fetch (up_said m range) fx [] l.sends l.closes)) k in
      let k2 = as_stages (Holds (port_at c.fetch 1) way.Up None ∷ others) (ap (λ w. Holds (port_at c.fetch 1) way.Up w ∷ others) l.rest) k1 in
      let k3 = past_fetch_end others 1 k2 in
      let r = finishes c s (a ++ up 1 (up_said m range) c.now true fx ∷ []) talk _ ds p by (body ++ goes_up m.bytes (Some range)) o lasts seen l.gathering l.taken k3 in
      fits small (r.0 ∙ simp append_assoc) r.1

  -- it is too large
  rises_large : (m : Said) (range : ℕ × ℕ) (fx : Fx Obj Load) → AsksOfFetch a (up 1 (up_said m range) c.now true fx) → 268435456 < length (body ++ goes_up m.bytes (Some range))
      → At c s (runs_of obj_nature c.fetch (up_said m range) true fx ++ Holds (port_at c.fetch 1) way.Up (left fx.took (up_said m range)) ∷ others) (a ++ up 1 (up_said m range) c.now true fx ∷ []) talk (ns ++ tells (Entered (port_at c.fetch 1) way.Up) ∷ []) ds
      → Rises c o (Some range) p talk (over b start calls) (body ++ goes_up m.bytes (Some range)) ns (told_of ds)
  rises_large m range fx asks big k =
      let l = takes_none a body (up_said m range) c.now fx going taken asks fit big refl in
      let d : List (NodeEntry Obj Load) = a ++ up 1 (up_said m range) c.now true fx ∷ [] in
      let next : List (Stage Obj Load) = Holds (port_at c.fetch 1) way.Up (left fx.took (up_said m range)) ∷ others in
      let closes : List (Stage Obj Load) = closes_of c.fetch (both_closes body_too_large) in
      let k1 = as_stages (closes ++ next) (ap (λ w. w ++ next) (runs_closes c.fetch (up_said m range) fx (both_closes body_too_large) l.sends l.closes)) k in
      let rest' = said_behind fx.took (up_said m range) in
      let k2 = as_stages (closes ++ Holds (port_at c.fetch 1) way.Up (Some rest') ∷ others) (ap (λ w. closes ++ Holds (port_at c.fetch 1) way.Up w ∷ others) l.rest) k1 in
      let r = grows_large c s d b start calls _ ds p by rest' o lasts seen k2 in
      let z = all_told c r.scene d (over b start calls) _ ds r.at in
      large big (z.0 ∙ simp append_assoc) (subst (λ w. Sees w c.fetch c.tftp Shut Shut Shut Shut) z.1 r.seen) (subst (λ w. closed_well w ≡ false) z.2 l.well) z.3

  rises_called : (m : Said) (range : ℕ × ℕ) (done : Bool) (fx : Fx Obj Load) → AsksOfFetch a (up 1 (up_said m range) c.now done fx)
      → At c s (runs_of obj_nature c.fetch (up_said m range) done fx ++ Holds (port_at c.fetch 1) way.Up (rest (up_said m range) done fx) ∷ others) (a ++ up 1 (up_said m range) c.now done fx ∷ []) talk (ns ++ tells (Entered (port_at c.fetch 1) way.Up) ∷ []) ds
      → Rises c o (Some range) p talk (over b start calls) (body ++ goes_up m.bytes (Some range)) ns (told_of ds)
  rises_called m range false fx asks k = rises_broken (up_said m range) range fx (a ++ up 1 (up_said m range) c.now false fx ∷ []) (over b start calls) (body ++ goes_up m.bytes (Some range)) k
  rises_called m range true fx asks k = elim (leb_tells (length (body ++ goes_up m.bytes (Some range))) 268435456) [
    | inl i ↦ rises_fitting m range fx asks i.1 k
    | inr i ↦ rises_large m range fx asks i.1 k
  ]

  -- what goes up is run, and then the transfer's end
  pub rises : (m : Said) (give : Option (ℕ × ℕ)) → At c s (few_of obj_nature c.tftp m (record { first = up_emit give; second = None }) ++ others) a talk ns ds
      → Rises c o give p talk (over b start calls) (body ++ goes_up m.bytes give) ns (told_of ds)
  rises m None k =
      let r = finishes c s a talk ns ds p by (body ++ []) o lasts seen going (taken ∙ sym (append-nil body)) k in
      fits (subst BodyFits (sym (append-nil body)) fit) r.0 r.1
  rises m (Some range) k =
      let x = sends-up c s others a k.below talk k.left 0 1 (up_said m range) seen.tftp_0 (omega arith) k.goes in
      rises_called m range x.0 x.1 x.2
      (then_at s (runs_of obj_nature c.fetch (up_said m range) x.0 x.1 ++ Holds (port_at c.fetch 1) way.Up (rest (up_said m range) x.0 x.1) ∷ others) (a ++ up 1 (up_said m range) c.now x.0 x.1 ∷ []) k.below talk (tells (Entered (port_at c.fetch 1) way.Up) ∷ []) k x.3)

-- what a call that was done leaves of the two, by what was told in all
pub data Does (c : Case) (rec : ℕ) (p : Port) (by : Way) (acts : Acts) (v last : Conversation) (body : List ℕ) (ns : List Notice) : Type 0 where
  does : BodyFits body → ns ≡ call_notices c.fetch c.tftp p by rec acts → Finishes c acts.over v body → Does c rec p by acts v last body ns
  grows : 268435456 < length body → ns ≡ large_notices c.fetch c.tftp p by rec acts → Sees c.end c.fetch c.tftp Shut Shut Shut Shut → closed_well c.above ≡ false → last ≡ c.talk → Does c rec p by acts v last body ns
  gives_up : first_close ns ≡ Some no_memory → Does c rec p by acts v last body ns

-- what is told before anything goes up
abbrev front_of : Case → ℕ → Port → Way → Acts → List Notice
front_of c rec p by acts = (tells (Entered p by) ∷ []) ++ down_notices c.tftp rec acts

does_so : (c : Case) (rec : ℕ) (p : Port) (by : Way) (acts : Acts) (v last : Conversation) (body : List ℕ) (ns : List Notice)
    → Rises c acts.over acts.give p v last body (front_of c rec p by acts) ns → Does c rec p by acts v last body ns
does_so c rec p by acts v last body ns (fits small told done) = does small told done
does_so c rec p by acts v last body ns (large big told seen well end) = grows big told seen well end
does_so c rec p by acts v last body ns (breaks more told) =
    let after : List Notice = tells (Entered (port_at c.fetch 1) way.Up) ∷ tells (Closed (port_at c.fetch 0) no_memory) ∷ more in
    gives_up (ap first_close told ∙ behind_none (front_of c rec p by acts) after (sent_closes (port_at c.tftp 1) (downs_of rec acts)))

-- the entry of a transfer's call
pub runs_call : (c : Case) (s : Scene) (a : List (NodeEntry Obj Load)) (b : Begun) (start : ℕ) (calls : List Step) (ds : List (Deed Obj Load)) (p : Port) (by : Way) (acts : Acts) (m : Said) (fx : Fx Obj Load) (body : List ℕ)
    → settles_by {N = Obj} {L = Load} by p.obj.0 ≡ Settles c.tftp ∷ [] → Sees s c.fetch c.tftp Open (Linked (port_at c.tftp 0)) (Linked (port_at c.fetch 1)) Open → gathers a ≡ true → taken_below a ≡ body → BodyFits body
    → EffectsOf m acts fx → At c s (runs_of obj_nature c.tftp m true fx ++ Holds p by None ∷ []) a (talk_went_on b start calls acts) (tells (Entered p by) ∷ []) ds
    → Does c m.rec p by acts (talk_went_on b start calls acts) (over b start calls) (body ++ goes_up m.bytes acts.give) (told_of ds)
runs_call c s a b start calls ds p by acts m fx body lasts seen going taken fit effects k =
    let v : Conversation = talk_went_on b start calls acts in
    let downs : List (Stage Obj Load) = few_of obj_nature c.tftp m fx.downs in
    let ups : List (Stage Obj Load) = few_of obj_nature c.tftp m (record { first = up_emit acts.give; second = None }) in
    let closes : List (Stage Obj Load) = closes_of c.tftp (end_closes acts.over) in
    let last : List (Stage Obj Load) = Holds p by None ∷ [] in
    let k1 = as_stages (downs ++ (ups ++ (closes ++ last)))
    (ap (λ w. w ++ last) (runs_effects c.tftp m acts fx effects) ∙ (append_assoc downs (ups ++ closes) last ∙ ap (λ w. downs ++ w) (append_assoc ups closes last))) k in
    let k2 = sends_few c s (ups ++ (closes ++ last)) a v (tells (Entered p by) ∷ []) ds m fx.downs seen.tftp_1 effects.by_one k1 in
    let k3 : At c s (ups ++ (closes ++ last)) a v (front_of c m.rec p by acts) ds = subst (λ w. At c s (ups ++ (closes ++ last)) a v (tells (Entered p by) ∷ map (sent_from (port_at c.tftp 1)) w) ds) effects.downs k2 in
    let r = rises c s a b start calls (front_of c m.rec p by acts) ds p by acts.over body lasts seen going taken fit m acts.give k3 in
    does_so c m.rec p by acts v (over b start calls) (body ++ goes_up m.bytes acts.give) (told_of ds) r

closed_first : (ns more : List Notice) (p q : Port) (by : Way) (z : Cause) → ns ≡ tells (Entered p by) ∷ tells (Closed q z) ∷ more → first_close ns ≡ Some z
closed_first ns more p q by z e = ap first_close e

-- where the Tftp ran out of memory
pub runs_failed : (c : Case) (s : Scene) (a : List (NodeEntry Obj Load)) (v : Conversation) (ds : List (Deed Obj Load)) (p : Port) (by : Way) (m : Said) (fx : Fx Obj Load) (left_over : Option Said)
    → Sees s c.fetch c.tftp Open (Linked (port_at c.tftp 0)) (Linked (port_at c.fetch 1)) Open
    → At c s (runs_of obj_nature c.tftp m false fx ++ Holds p by left_over ∷ []) a v (tells (Entered p by) ∷ []) ds → first_close (told_of ds) ≡ Some no_memory
runs_failed c s a v ds p by m fx left_over seen k =
    let last : List (Stage Obj Load) = Holds p by left_over ∷ [] in
    let others : List (Stage Obj Load) = Closes (port_at c.tftp 1) no_memory ∷ Closes (port_at c.tftp 2) no_memory ∷ Closes (port_at c.tftp 3) no_memory ∷ last in
    let k1 = as_stages (returns_of c.tftp (lent fx) ++ (all_closes c.tftp no_memory ++ last)) (append_assoc (returns_of c.tftp (lent fx)) (all_closes c.tftp no_memory) last) k in
    let k2 = past_returns (all_closes c.tftp no_memory ++ last) (lent fx) k1 in
    let x = closes-up c s others a k2.below v k2.left 0 1 no_memory seen.tftp_0 k2.goes in
    let told : List Notice = tells (Closed (port_at c.tftp 0) no_memory) ∷ tells (Closed (port_at c.fetch 1) no_memory) ∷ tells (Entered (port_at c.fetch 1) way.Close) ∷ [] in
    let k3 = then_at _ _ _ _ v told k2 x.2 in
    closed_first (told_of ds) (tells (Closed (port_at c.fetch 1) no_memory) ∷ tells (Entered (port_at c.fetch 1) way.Close) ∷ told_of k3.left) p (port_at c.tftp 0) by no_memory k3.told
