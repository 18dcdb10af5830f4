-- What a datagram or a time does to the two objects of an open.
use Rattle.std.proofs.Common.{◌≡◌, ℕ, ◌<◌, ◌^◌, ◌==◌, Bool, true, false, not, List, [], ◌∷◌, ◌++◌, length, min, Option, Some, None, refl, sym, ap, ◌∙◌, subst, if◌then◌else◌, arith}
use Rattle.std.specs.Prelude.{IfSome}
use Rattle.std.specs.Option.{is_some}
use Rattle.std.proofs.lemmas.Bool.{lt-ltb}
use Rattle.nb_terms.specs.declared.acts.Acts.{Acts}
use Rattle.nb_ledger.specs.declared.port.Port.{Port}
use Rattle.nb_ledger.specs.declared.event.Way.{Way}
use Rattle.nb_ledger.specs.declared.event.Way.TheVariants as way
use Rattle.nb_ledger.specs.declared.event.GraphEvent.TheVariants.{Entered}
use Rattle.nb_ledger.specs.Flat.{Given, Heard, Notice}
use Rattle.nb_effects.specs.declared.effects.Fx.{Fx}
use Rattle.nb_graph.specs.Whole.{Objects, port_at}
use Rattle.nb_graph.specs.Trace.{NodeEntry, Said, up, time, silence, left}
use Rattle.nb_graph.specs.Deeds.{Stage, Offers, Ticks, Holds, Settles, told_of, rest, runs_of, settles_by}
use Rattle.nb_graph.specs.Scene.{scene_of}
use Rattle.nb_graph.specs.Noded.{AreNoded}
use Rattle.nb_graph.specs.Went.{WentOne}
use Rattle.nb_tftp.specs.Asks.{Begun}
use Rattle.nb_tftp.specs.Received.{received}
use Rattle.nb_tftp.specs.History.{Call, Entry as Step, entry, came, ticked, given_of}
use Rattle.nb_tftp.specs.Sentences.{Meets}
use Rattle.nb_nodes.specs.declared.load.Load.{Load}
use Rattle.nb_nodes.specs.declared.obj.Obj.{Obj}
use Rattle.nb_nodes.specs.Objects.{obj_nature, rank_of_obj}
use Rattle.nb_nodes.specs.Standing.{ObjStands}
use Rattle.nb_nodes.specs.Carried.{EffectsOf}
use Rattle.nb_nodes.specs.Conversations.{Conversation, unbegun, under_way, over, talk_went_on, is_datagram, Continues, receives, ticks, ends, rests, RunsTo}
use Rattle.nb_nodes.specs.Fetches.{taken_below}
use Rattle.nb_opens.specs.Notices.{tells}
use Rattle.nb_opens.specs.Pairs.{Downloads, CallDoes, goes_on, is_over, is_too_large, fails, AreUnharvested}
use Rattle.nb_opens.proofs.TalkLemmas.{TalkMeets}
use Rattle.nb_opens.proofs.Starting.{Started, started_with, case_of, deeds_in, told_in}
use Rattle.nb_opens.proofs.Going.{Case, offers-up, ticks-in}
use Rattle.nb_opens.proofs.Scenes.{sees_joined, joined_seen, shut_seen}
use Rattle.nb_opens.proofs.Effects.{At, as_stages}
use Rattle.nb_opens.proofs.Bodies.{goes_up, given_came, given_ticked, all_left}
use Rattle.nb_opens.proofs.Ending.{goes, stops}
use Rattle.nb_opens.proofs.Rising.{Does, does, grows, gives_up, runs_call, runs_failed}

-- The Tftp ran out of memory, or its transfer's call asked for this.
data Answers (b : Begun) (start : ℕ) (calls : List Step) (call : Call) (m : Said) (left_over : Bool → Fx Obj Load → Option Said) : Bool → Fx Obj Load → Conversation → Type 0 where
  broke : (fx : Fx Obj Load) (w : Conversation) → Answers b start calls call m left_over false fx w
  asked : (fx : Fx Obj Load) (acts : Acts) → EffectsOf m acts fx → left_over true fx ≡ None → Answers b start calls call m left_over true fx (talk_went_on b start (calls ++ entry call acts ∷ []) acts)

-- all of the message was taken
whole_taken : (m : Said) (took : ℕ) → length m.bytes < 2 ^ 32 → took ≡ min (length m.bytes) 4294967295 → left took m ≡ None
whole_taken m took h e = all_left m took (omega (arith, h, e))

hears : (b : Begun) (start : ℕ) (calls : List Step) (m : Said) (now : ℕ) (done : Bool) (fx : Fx Obj Load) (w : Conversation) → is_datagram 1 m ≡ true → length m.bytes < 2 ^ 32
    → Continues (under_way b start calls) (up 1 m now done fx) w → Answers b start calls (came (received m.rec m.a m.bytes) now) m (λ done fx. rest m done fx) done fx w
hears b start calls m now false fx w is small k = broke fx w
hears b start calls m now true fx _ is small (receives _ _ _ _ _ _ _ acts _ effects takes) = asked fx acts effects (whole_taken m fx.took small takes)
hears b start calls m now true fx _ is small (ends _ _ fatal passes) = absurd (let z = fatal in cc)
hears b start calls m now true fx _ is small (rests _ _ idle asks) = absurd (let z = sym (ap not is) ∙ idle in cc)

hears_time : (b : Begun) (start : ℕ) (calls : List Step) (now : ℕ) (done : Bool) (fx : Fx Obj Load) (w : Conversation)
    → Continues (under_way b start calls) (time now done fx) w → Answers b start calls (ticked now) silence (λ done fx. None) done fx w
hears_time b start calls now false fx w k = broke fx w
hears_time b start calls now true fx _ (ticks _ _ _ _ _ acts effects) = asked fx acts effects refl
hears_time b start calls now true fx _ (ends _ _ fatal passes) = absurd (let z = fatal in cc)
hears_time b start calls now true fx _ (rests _ _ idle asks) = absurd (let z = idle in cc)

-- the conversation after a call meets the promises, whether it ended or not
meets_either : (o : Bool) (b : Begun) (start : ℕ) (calls : List Step) → TalkMeets (if o then over b start calls else under_way b start calls) → Meets b start calls
meets_either true b start calls h = h
meets_either false b start calls h = h

-- a body is there where the cause is Ok
body_there : (ok : Bool) (body : List ℕ) → is_some (if ok then Some body else None) ≡ ok
body_there true body = refl
body_there false body = refl

body_so : (ok : Bool) (body taken : List ℕ) → taken ≡ body → IfSome (if ok then Some body else None) (λ bytes. taken ≡ bytes)
body_so true body taken e = e
body_so false body taken e = tt

module _ (g h : Objects Obj) (m n : Heard) (now f t : ℕ) (asks : List (Stage Obj Load)) (above below : List (NodeEntry Obj Load)) (b : Begun) (start : ℕ) (calls : List Step) (st : Started g h m n now f t asks above below (under_way b start calls))
    (was : AreUnharvested g f t) (body : List ℕ) (p : Port) (by : Way) (rec : ℕ) (call : Call) (acts : Acts) where
  abbrev all_calls : List Step
  all_calls = calls ++ entry call acts ∷ []

  abbrev all_bytes : List ℕ
  all_bytes = body ++ given_of call acts.give

  abbrev case : Case
  case = case_of now f t st.apart h st.top st.bottom st.talk

  meets_now : talk_went_on b start all_calls acts ≡ st.talk → Meets b start all_calls
  meets_now same = meets_either (is_some acts.over) b start all_calls (subst TalkMeets (sym same) st.meets)

  call_does : Does case rec p by acts (talk_went_on b start all_calls acts) (over b start all_calls) all_bytes (told_of st.deeds) → CallDoes h f t b start calls body p by rec call (told_of st.deeds)
  call_does (does small told (goes none seen going taken same)) =
      let on : under_way b start all_calls ≡ st.talk = subst (λ o. (if is_some o then over b start all_calls else under_way b start all_calls) ≡ st.talk) none same in
      goes_on acts (meets_now same) none small told (record {
        joined = joined_seen h f t seen st.fetch_held st.tftp_held st.fetch_rank st.tftp_rank;
        above = st.top;
        below = st.bottom;
        fetch = st.fetch;
        tftp = st.tftp;
        gathering = going;
        taken = taken;
        fits = small;
        talk = subst (λ w. RunsTo unbegun st.bottom w) (sym on) st.runs;
        meets = meets_now same;
        unharvested = st.unharvested was;
      })
  call_does (does small told (stops z ended seen well taken same)) =
      is_over acts z (meets_now same) ended small told (record {
        shut = shut_seen h f t seen st.fetch_held st.tftp_held st.fetch_rank st.tftp_rank;
        above = st.top;
        fetch = st.fetch;
        well = well ∙ sym (body_there (z.code == 0) all_bytes);
        taken = body_so (z.code == 0) all_bytes (taken_below st.top) taken;
        unharvested = st.unharvested was;
      })
  call_does (grows big told seen well same) =
      is_too_large acts (subst TalkMeets (sym same) st.meets) big told (record {
        shut = shut_seen h f t seen st.fetch_held st.tftp_held st.fetch_rank st.tftp_rank;
        above = st.top;
        fetch = st.fetch;
        well = well;
        taken = tt;
        unharvested = st.unharvested was;
      })
  call_does (gives_up first) = fails first

-- from what was known before the call
module _ (g h : Objects Obj) (m n : Heard) (now f t : ℕ) (asks : List (Stage Obj Load)) (b : Begun) (start : ℕ) (calls : List Step) (body : List ℕ) (d : Downloads g f t b start calls body)
    (st : Started g h m n now f t asks d.above d.below (under_way b start calls)) where
  abbrev call_case : Case
  call_case = case_of now f t st.apart h st.top st.bottom st.talk

  -- the Tftp was called and answered so
  answers_so : (k : ℕ) (by : Way) (call : Call) (said : Said) (done : Bool) (fx : Fx Obj Load) (w : Conversation) (left_over : Bool → Fx Obj Load → Option Said)
      → settles_by {N = Obj} {L = Load} by t ≡ Settles t ∷ [] → ((range : Option (ℕ × ℕ)) → goes_up said.bytes range ≡ given_of call range)
      → Answers b start calls call said left_over done fx w
      → At call_case (scene_of g.book) (runs_of obj_nature t said done fx ++ Holds (port_at t k) by (left_over done fx) ∷ []) d.above w (tells (Entered (port_at t k) by) ∷ []) st.deeds
      → CallDoes h f t b start calls body (port_at t k) by said.rec call (told_of st.deeds)
  answers_so k by call said _ _ _ left_over lasts given (broke fx w) at =
      let stopped = as_stages (runs_of obj_nature t said false fx ++ Holds (port_at t k) by (left_over false fx) ∷ []) refl at in
      fails (runs_failed call_case (scene_of g.book) d.above w st.deeds (port_at t k) by said fx (left_over false fx) (sees_joined g f t d.joined) stopped)
  answers_so k by call said _ _ _ left_over lasts given (asked fx acts effects none) at =
      let v : Conversation = talk_went_on b start (calls ++ entry call acts ∷ []) acts in
      let runs : List (Stage Obj Load) = runs_of obj_nature t said true fx in
      let at' = as_stages (runs ++ Holds (port_at t k) by None ∷ []) (ap (λ z. runs ++ Holds (port_at t k) by z ∷ []) none) at in
      let r = runs_call call_case (scene_of g.book) d.above b start (calls ++ entry call acts ∷ []) st.deeds (port_at t k) by acts said fx body lasts (sees_joined g f t d.joined) d.gathering d.taken d.fits effects at' in
      call_does g h m n now f t asks d.above d.below b start calls st d.unharvested body (port_at t k) by said.rec call acts
      (subst (λ z. Does call_case said.rec (port_at t k) by acts v (over b start (calls ++ entry call acts ∷ [])) (body ++ z) (told_of st.deeds)) (given acts.give) r)

-- what the outside is told, and what it does to each transfer that may be under way
abbrev pub DoesCall : Objects Obj → Objects Obj → ℕ → ℕ → Port → Way → ℕ → Call → Heard → Heard → Type 0
DoesCall old new f t p by rec call before after =
    (ns : List Notice) × Given before after ns
    × ((b : Begun) (start : ℕ) (calls : List Step) (body : List ℕ) → Downloads old f t b start calls body → CallDoes new f t b start calls body p by rec call ns)

-- a datagram that comes
abbrev pub datagram_in : ℕ → ℕ → List ℕ → Said
datagram_in rec port bytes = record { tag = 2; rec = rec; a = port; b = 0; bytes = bytes }

is_datagram_in : (rec port : ℕ) (bytes : List ℕ) → port < 2 ^ 16 → is_datagram 1 (datagram_in rec port bytes) ≡ true
is_datagram_in rec port bytes i = lt-ltb port (2 ^ 16) i

pub hear_does : (g h : Objects Obj) (m n : Heard) (now f t rec port : ℕ) (bytes : List ℕ)
    → port < 2 ^ 16 → length bytes < 2 ^ 32 → AreNoded rank_of_obj h
    → WentOne ObjStands obj_nature now (Offers (port_at t 1) (datagram_in rec port bytes) ∷ []) g h m n
    → DoesCall g h f t (port_at t 1) way.Up rec (came (received rec port bytes) now) m n
hear_does g h m n now f t rec port bytes i j noded k =
    let said = datagram_in rec port bytes in
    let asks : List (Stage Obj Load) = Offers (port_at t 1) said ∷ [] in (
      told_of (deeds_in g h m n now asks k),
      told_in g h m n now asks k,
      λ b start calls body d.
          let z = started_with g h m n now f t asks d.above d.below (under_way b start calls) d.joined.two d.fetch d.tftp d.talk d.meets d.unharvested noded (tt, tt) k in
          let st = z.0 in
          let c = case_of now f t st.apart h st.top st.bottom st.talk in
          let x = offers-up c (scene_of g.book) [] d.above d.below (under_way b start calls) st.deeds 1 said (omega arith) d.joined.below (record { uses = st.uses; tail = st.tail }) in
          let call : Call = came (received rec port bytes) now in
          let r = answers_so g h m n now f t asks b start calls body d st 1 way.Up call said x.0 x.1 x.2 (λ done fx. rest said done fx) refl (λ range. given_came rec port now bytes range)
          (hears b start calls said now x.0 x.1 x.2 (is_datagram_in rec port bytes i) j x.3) (record { below = d.below ++ up 1 said now x.0 x.1 ∷ []; left = x.4.0; told = x.4.1; goes = x.4.2 }) in
          subst (λ ds. CallDoes h f t b start calls body (port_at t 1) way.Up rec call (told_of ds)) z.1 r,
    )

pub tick_does : (g h : Objects Obj) (m n : Heard) (now f t : ℕ)
    → AreNoded rank_of_obj h
    → WentOne ObjStands obj_nature now (Ticks t ∷ []) g h m n
    → DoesCall g h f t (port_at t 4) way.Time 0 (ticked now) m n
tick_does g h m n now f t noded k =
    let asks : List (Stage Obj Load) = Ticks t ∷ [] in (
      told_of (deeds_in g h m n now asks k),
      told_in g h m n now asks k,
      λ b start calls body d.
          let z = started_with g h m n now f t asks d.above d.below (under_way b start calls) d.joined.two d.fetch d.tftp d.talk d.meets d.unharvested noded (tt, tt) k in
          let st = z.0 in
          let c = case_of now f t st.apart h st.top st.bottom st.talk in
          let x = ticks-in c (scene_of g.book) [] d.above d.below (under_way b start calls) st.deeds d.joined.two.tftp_lives (record { uses = st.uses; tail = st.tail }) in
          let r = answers_so g h m n now f t asks b start calls body d st 4 way.Time (ticked now) silence x.0 x.1 x.2 (λ done fx. None) refl (λ range. given_ticked now range)
          (hears_time b start calls now x.0 x.1 x.2 x.3) (record { below = d.below ++ time now x.0 x.1 ∷ []; left = x.4.0; told = x.4.1; goes = x.4.2 }) in
          subst (λ ds. CallDoes h f t b start calls body (port_at t 4) way.Time 0 (ticked now) (told_of ds)) z.1 r,
    )
