-- What a message from the connection does to the fetch, to the Fetch above it, and to the connection.
use Rattle.std.proofs.Common.{◌≡◌, ◌⊎◌, inl, inr, ℕ, zero, suc, ◌≤◌, ◌==◌, ◌||◌, Bool, true, false, not, List, [], ◌∷◌, ◌++◌, length, take, drop, map, nat_lt, Option, Some, None, refl, sym, ap, ◌∙◌, subst, append_assoc, append-nil, arith, if◌then◌else◌}
use Rattle.std.specs.List.{AllByRecursion}
use Rattle.std.proofs.lemmas.Bool.{eq-eqb, eqb-true, false≢true, ltb-false}
use Rattle.std.proofs.lemmas.List.{take-append-drop, take_all}
use Rattle.nb_terms.specs.declared.cause.Cause.{Cause}
use Rattle.nb_ledger.specs.declared.event.Way.TheVariants as way
use Rattle.nb_effects.specs.declared.effects.Emit.{Emit}
use Rattle.nb_effects.specs.declared.effects.Few.{Few}
use Rattle.nb_effects.specs.declared.effects.Fx.{Fx}
use Rattle.nb_graph.specs.Whole.{port_at}
use Rattle.nb_graph.specs.Trace.{NodeEntry, Said, carries, in_list, left, said_behind, up}
use Rattle.nb_graph.specs.Deeds.{Deed, Stage, Holds, Closes, Sends, closes_of, emit_of, few_of, rest, returns_of, runs_of, said_of}
use Rattle.nb_conns.specs.declared.stream_tag.StreamTag.TheVariants.{End, Received}
use Rattle.nb_conns.specs.StreamTags.{stream_tag_number}
use Rattle.nb_conns.specs.ConnEffects.{GoesAbove, closes_for, emits_of, received_says}
use Rattle.nb_conns.specs.Dialogues.{Dialogue}
use Rattle.nb_http.specs.Standing.{Core, EndsStream, TakesBytes, moved_text}
use Rattle.nb_http.specs.Runs.{EndsAsRead, Ran, took}
use Rattle.nb_http.proofs.RunLaws.{ends_as_response, finishes_as_response}
use Rattle.nb_readings.specs.Ends.{is_decided, text_of, verdict_end}
use Rattle.nb_readings.specs.Readings.{read_so_far, response_read}
use Rattle.nb_responses.specs.Chunks.{Verdict, more, open_body, body, moved, status, broken, large, long, many}
use Rattle.nb_nodes.specs.declared.load.Load.{Load}
use Rattle.nb_nodes.specs.declared.obj.Obj.{Obj}
use Rattle.nb_nodes.specs.Carriers.{web_carrier}
use Rattle.nb_nodes.specs.Fetches.{closed_well, gathers, moved_in, taken_below}
use Rattle.nb_nodes.specs.Objects.{obj_nature}
use Rattle.nb_webnodes.specs.WebAsks.{AskParts}
use Rattle.nb_webnodes.specs.WebEffects.{WebEffects, gives_says, moved_at_end, moves_says, web_nature, web_say, web_says}
use Rattle.nb_webnodes.specs.WebTalks.{Fetched, ReadsOn, WebTalk, ends_early, fetched_on, fetching, is_open_web, stays_idle, takes_end, takes_part, web_decided}
use Rattle.nb_webtalks.proofs.Limits.{bodies_are_limited}
use Rattle.nb_webtalks.proofs.Walking.{WebCall, Walk, view}
use Rattle.nb_webtalks.proofs.Steps.{left_by, shut_web_top, web_rest, web_settles, web_takes, weaker}
use Rattle.nb_webtalks.proofs.Uppers.{Gathers, IsMoved, RanOut, as_stages, fetch_closed, fetch_gathers, fetch_moves, web_all_returns, web_fails}
use Rattle.nb_webtalks.proofs.Lowers.{ClosedBelow, IsBegun, closes_too, conn_closed, is_over_already}

-- HOW A VERDICT ENDS IT

ends_decided : (rec : ℕ) (v : Verdict) (x : Cause) → verdict_end rec v ≡ Some x → is_decided v ≡ true
ends_decided rec more x e = absurd (let z = e in cc)
ends_decided rec open_body x e = absurd (let z = e in cc)
ends_decided rec body x e = refl
ends_decided rec (moved text) x e = refl
ends_decided rec (status code) x e = refl
ends_decided rec broken x e = refl
ends_decided rec large x e = refl
ends_decided rec long x e = refl
ends_decided rec many x e = refl

goes_undecided : (rec : ℕ) (v : Verdict) → verdict_end rec v ≡ None → is_decided v ≡ false
goes_undecided rec more e = refl
goes_undecided rec open_body e = refl
goes_undecided rec body e = absurd (let z = e in cc)
goes_undecided rec (moved text) e = absurd (let z = e in cc)
goes_undecided rec (status code) e = absurd (let z = e in cc)
goes_undecided rec broken e = absurd (let z = e in cc)
goes_undecided rec large e = absurd (let z = e in cc)
goes_undecided rec long e = absurd (let z = e in cc)
goes_undecided rec many e = absurd (let z = e in cc)

decided_ends : (rec : ℕ) (v : Verdict) (over : Option Cause) → over ≡ verdict_end rec v → is_decided v ≡ true → over ≡ None → ⊥
decided_ends rec v over is on none = let off = goes_undecided rec v (sym is ∙ none) in false≢true (sym off ∙ on)

-- a move ends it with Ok
move_ends : (rec : ℕ) (v : Verdict) (x : Cause) (text : List ℕ) → text_of v ≡ Some text → verdict_end rec v ≡ Some x → record { code = 0; a = 0; b = 0 } ≡ x
move_ends rec (moved _) x text t e = cc
move_ends rec more x text t e = absurd (let z = t in cc)
move_ends rec open_body x text t e = absurd (let z = t in cc)
move_ends rec body x text t e = absurd (let z = t in cc)
move_ends rec (status code) x text t e = absurd (let z = t in cc)
move_ends rec broken x text t e = absurd (let z = t in cc)
move_ends rec large x text t e = absurd (let z = t in cc)
move_ends rec long x text t e = absurd (let z = t in cc)
move_ends rec many x text t e = absurd (let z = t in cc)

-- WHAT GOES UP

carries_same : (bytes : List ℕ) (from to : ℕ) (o : Option Load) → carries obj_nature bytes from to o ≡ carries (web_nature web_carrier) bytes from to o
carries_same bytes from to None = refl
carries_same bytes from to (Some l) = refl

pub said_same : (m : Said) (e : Emit Load) → said_of obj_nature m e ≡ web_says web_carrier m e
said_same m e = ap (λ z. record { tag = e.tag; rec = m.rec; a = e.a; b = e.b; bytes = z }) (carries_same m.bytes e.from e.to e.load)

-- the messages of some emits, each with its loads that come back
abbrev pub emits_stages : ℕ → Said → List (Emit Load) → List (Stage Obj Load)
emits_stages x m [] = []
emits_stages x m (e ∷ es) = emit_of obj_nature x m (Some e) ++ emits_stages x m es

pub few_stages : (x : ℕ) (m : Said) (f : Few (Emit Load)) → few_of obj_nature x m f ≡ emits_stages x m (emits_of f)
few_stages x m f = by f.first f.second
  where
    by : (one two : Option (Emit Load)) → emit_of obj_nature x m one ++ emit_of obj_nature x m two ≡ emits_stages x m (in_list one ++ in_list two)
    by None None = refl
    by None (Some e) = sym (append-nil (emit_of obj_nature x m (Some e)))
    by (Some e) None = refl
    by (Some e) (Some g) = ap (λ z. emit_of obj_nature x m (Some e) ++ z) (sym (append-nil (emit_of obj_nature x m (Some g))))

pub none_said : (m : Said) (es : List (Emit Load)) → map (web_says web_carrier m) es ≡ [] → es ≡ []
none_said m [] h = refl
none_said m (e ∷ es) h = absurd (let z = h in cc)

-- an entry of the fetch that sends nothing down
runs_up : (x : ℕ) (m : Said) (fx : Fx Obj Load) (xs : List (ℕ × Cause)) → fx.makes ≡ None → web_say web_carrier m fx.downs ≡ [] → fx.closes.items ≡ xs → runs_of obj_nature x m true fx ≡ emits_stages x m (emits_of fx.ups) ++ closes_of x xs
runs_up x m fx xs none no_downs closes =
    let down : few_of obj_nature x m fx.downs ≡ [] = few_stages x m fx.downs ∙ ap (emits_stages x m) (none_said m (emits_of fx.downs) no_downs) in
    rw (none, down, closes, few_stages x m fx.ups) refl

-- it is the response of any stream that begins so, or where the stream's end decided it, of this stream at its end
abbrev pub ReadsSo : ℕ → Bool → Core → List ℕ → List ℕ → Cause → Type 0
ReadsSo rec by_end c taken given x = (later : List ℕ) (ended : Bool) → (by_end ≡ true → (later ≡ []) × (ended ≡ true)) → EndsAsRead rec c given (Some x) (response_read (taken ++ later) ended)

-- What the Fetch has done where the response is decided: it was told its move, or its port was closed with the cause.
pub record Answers (a : List (NodeEntry Obj Load)) (rec : ℕ) (by_end : Bool) (c : Core) (taken given : List ℕ) (x : Cause) : Type 0 where
  pub answered : ReadsSo rec by_end c taken given x
  pub moves : moved_in a ≡ moved_text c.head c.state
  pub well : moved_text c.head c.state ≡ None → closed_well a ≡ (x.code == 0)
  pub body : moved_text c.head c.state ≡ None → taken_below a ≡ given

-- BYTES GO UP, AND A MOVE

-- The bytes were handed up, where there were any; these messages are still to go.
pub record GaveBytes (c : WebCall) (n : ℕ) (gs : List (Stage Obj Load)) (r : WebTalk) (d : Dialogue) (ms : List Said) (ds : List (Deed Obj Load)) (m : Said) (says : List Said) (given : List ℕ) : Type 0 where
  pub emits : List (Emit Load)
  pub above : AllByRecursion GoesAbove emits
  pub said : map (web_says web_carrier m) emits ≡ says
  pub gathers_on : Gathers c n true true (emits_stages c.web m emits ++ gs) r d ms ds given

module _ {c : WebCall} {n : ℕ} (gs : List (Stage Obj Load)) {a : List (NodeEntry Obj Load)} {r : WebTalk} {d : Dialogue} {ms : List Said} {ds : List (Deed Obj Load)} (m : Said) (given gave : List ℕ) (going : gathers a ≡ true) (taken : taken_below a ≡ given) (fits : length (given ++ gave) ≤ 268435456) where
  first_up : (e : Emit Load) (es : List (Emit Load)) (told : Said) → e.slot ≡ 0 → web_says web_carrier m e ≡ told → Walk c n (view true true true true) (emits_stages c.web m (e ∷ es) ++ gs) a r d ms None ds
      → Walk c n (view true true true true) (Sends (port_at c.web 0) told ∷ (returns_of c.web (in_list e.load) ++ (emits_stages c.web m es ++ gs))) a r d ms None ds
  first_up e es told slot is k =
      let hs : List (Stage Obj Load) = returns_of c.web (in_list e.load) ++ (emits_stages c.web m es ++ gs) in
      as_stages (Sends (port_at c.web 0) told ∷ hs)
      (append_assoc (emit_of obj_nature c.web m (Some e)) (emits_stages c.web m es) gs ∙ ap (λ s. Sends (port_at c.web s) (said_of obj_nature m e) ∷ hs) slot ∙ ap (λ x. Sends (port_at c.web 0) x ∷ hs) (said_same m e ∙ is)) k

  bytes_up : (b : Bool) (es : List (Emit Load)) (says : List Said) → nat_lt 0 (length gave) ≡ b → map (web_says web_carrier m) es ≡ (if b then received_says m.rec gave ∷ [] else []) ++ says → AllByRecursion GoesAbove es
      → Walk c n (view true true true true) (emits_stages c.web m es ++ gs) a r d ms None ds → RanOut ds ⊎ GaveBytes c n gs r d ms ds m says (given ++ gave)
  bytes_up false es says none said above k =
      let empty : gave ≡ [] = none_in gave (let l = ltb-false 0 (length gave) none in omega (arith, l)) in
      inr (record { emits = es; above = above; said = said; gathers_on = record { above = a; going = going; taken = taken ∙ sym (ap (λ x. given ++ x) empty ∙ append-nil given); walk = k } })
    where
      none_in : (xs : List ℕ) → length xs ≡ 0 → xs ≡ []
      none_in [] e = refl
      none_in (x ∷ xs) e = absurd (omega (arith, e))
  bytes_up true [] says some said above k = absurd (let z = said in cc)
  bytes_up true (e ∷ es) says some said above k =
      let one : web_says web_carrier m e ≡ received_says m.rec gave = cc in
      let others : map (web_says web_carrier m) es ≡ says = cc in
      let fit : length (taken_below a ++ gave) ≤ 268435456 = subst (λ x. length (x ++ gave) ≤ 268435456) (sym taken) fits in
      elim (fetch_gathers going fit refl (first_up e es (received_says m.rec gave) above.0 one k)) [
        | inl out ↦ inl out
        | inr g ↦ inr (record {
          emits = es;
          above = above.1;
          said = others;
          gathers_on = record { above = g.above; going = g.going; taken = g.taken ∙ ap (λ x. x ++ gave) taken; walk = web_all_returns (in_list e.load) g.walk };
        })
      ]

module _ {c : WebCall} {n : ℕ} {gs : List (Stage Obj Load)} {r : WebTalk} {d : Dialogue} {ms : List Said} {ds : List (Deed Obj Load)} (m : Said) (given : List ℕ) where
  -- none is to go
  no_move : GaveBytes c n gs r d ms ds m [] given → Gathers c n true true gs r d ms ds given
  no_move k = record {
    above = k.gathers_on.above;
    going = k.gathers_on.going;
    taken = k.gathers_on.taken;
    walk = as_stages gs (ap (λ (x : List (Emit Load)). emits_stages c.web m x ++ gs) (none_said m k.emits k.said)) k.gathers_on.walk;
  }

  -- the text of a move is, from a fetch that is decided
  a_move : {a : List (NodeEntry Obj Load)} (text : List ℕ) (es : List (Emit Load)) → is_open_web r ≡ false → gathers a ≡ true → AllByRecursion GoesAbove es → map (web_says web_carrier m) es ≡ moves_says m.rec (Some text)
      → Walk c n (view true true true true) (emits_stages c.web m es ++ gs) a r d ms None ds → RanOut ds ⊎ IsMoved c n true gs r d ms ds text
  a_move text [] decided going above said k = absurd (let z = said in cc)
  a_move {a = a} text (e ∷ es) decided going above said k =
      let told : Said = record { tag = 10; rec = m.rec; a = 0; b = 0; bytes = text } in
      let one : web_says web_carrier m e ≡ told = cc in
      let none : map (web_says web_carrier m) es ≡ [] = cc in
      let hs : List (Stage Obj Load) = returns_of c.web (in_list e.load) ++ (emits_stages c.web m es ++ gs) in
      elim (fetch_moves going decided refl (as_stages (Sends (port_at c.web 0) told ∷ hs)
      (append_assoc (emit_of obj_nature c.web m (Some e)) (emits_stages c.web m es) gs ∙ ap (λ s. Sends (port_at c.web s) (said_of obj_nature m e) ∷ hs) above.0 ∙ ap (λ x. Sends (port_at c.web 0) x ∷ hs) (said_same m e ∙ one)) k)) [
        | inl out ↦ inl out
        | inr g ↦ inr (record {
          above = g.above;
          moved = g.moved;
          walk = as_stages gs (ap (λ (x : List (Emit Load)). emits_stages c.web m x ++ gs) (none_said m es none)) (web_all_returns (in_list e.load) g.walk);
        })
      ]

-- WHERE THE RESPONSE IS DECIDED

abbrev shut_stages : WebCall → Option Said → List (Stage Obj Load) → Cause → List (Stage Obj Load)
shut_stages c o gs x = Closes (port_at c.web 0) x ∷ Closes (port_at c.web 1) x ∷ Holds (port_at c.web 1) way.Up o ∷ gs

-- what is closed then
pub data Decided (c : WebCall) (n : ℕ) (gs : List (Stage Obj Load)) (d : Dialogue) (ms : List Said) (ds : List (Deed Obj Load)) (q : AskParts) (rec : ℕ) (by_end : Bool) (core : Core) (taken given : List ℕ) (x : Cause) : Type 0 where
  ran_out_then : RanOut ds → Decided c n gs d ms ds q rec by_end core taken given x
  is_decided_so : (a : List (NodeEntry Obj Load)) → Answers a rec by_end core taken given x → ClosedBelow c n false false gs a (web_decided q core taken given (Some x)) d ms x ds → Decided c n gs d ms ds q rec by_end core taken given x

module _ {c : WebCall} {n : ℕ} {gs : List (Stage Obj Load)} {r : WebTalk} {d : Dialogue} {ms : List Said} {ds : List (Deed Obj Load)} {x : Cause} (o : Option Said) where
  rest_gone : {a : List (NodeEntry Obj Load)} → ClosedBelow c n false false (Holds (port_at c.web 1) way.Up o ∷ gs) a r d ms x ds → ClosedBelow c n false false gs a r d ms x ds
  rest_gone (closes_too e acts behind talks asked grows silent off k) = closes_too e acts behind talks asked grows silent off (web_rest o k)
  rest_gone (is_over_already off k) = is_over_already off (web_rest o k)

module _ {c : WebCall} {n : ℕ} {gs : List (Stage Obj Load)} {d : Dialogue} {ms : List Said} {ds : List (Deed Obj Load)} {q : AskParts} {rec : ℕ} {by_end : Bool} {core : Core} {taken given : List ℕ} {x : Cause} (o : Option Said) (begun : IsBegun d) where
  by_move : (text : List ℕ) → ReadsSo rec by_end core taken given x → moved_text core.head core.state ≡ Some text → record { code = 0; a = 0; b = 0 } ≡ x → IsMoved c n true (shut_stages c o gs x) (web_decided q core taken given (Some x)) d ms ds text
      → Decided c n gs d ms ds q rec by_end core taken given x
  by_move text answered moves ok k =
      is_decided_so k.above (record {
        answered = answered;
        moves = k.moved ∙ sym moves;
        well = λ none. absurd (let z : None ≡ Some text = sym none ∙ moves in cc);
        body = λ none. absurd (let z : None ≡ Some text = sym none ∙ moves in cc);
      }) (rest_gone o (conn_closed begun (shut_web_top (subst (λ y. Walk c n (view false false true true) (shut_stages c o gs x) k.above (web_decided q core taken given (Some x)) d ms (Some y) ds) ok k.walk))))

  by_close : ReadsSo rec by_end core taken given x → moved_text core.head core.state ≡ None → Gathers c n true true (shut_stages c o gs x) (web_decided q core taken given (Some x)) d ms ds given → Decided c n gs d ms ds q rec by_end core taken given x
  by_close answered unmoved k =
      let y = fetch_closed k.going k.walk in
      is_decided_so y.above (record {
        answered = answered;
        moves = y.unmoved ∙ sym unmoved;
        well = λ _. y.well;
        body = λ _. y.taken ∙ k.taken;
      }) (rest_gone o (conn_closed begun y.walk))

  decide : (mv : Option (List ℕ)) (m : Said) → ReadsSo rec by_end core taken given x → moved_text core.head core.state ≡ mv → ((text : List ℕ) → moved_text core.head core.state ≡ Some text → record { code = 0; a = 0; b = 0 } ≡ x)
      → GaveBytes c n (shut_stages c o gs x) (web_decided q core taken given (Some x)) d ms ds m (moves_says m.rec mv) given → Decided c n gs d ms ds q rec by_end core taken given x
  decide None m answered moves ok k = by_close answered moves (no_move m given k)
  decide (Some text) m answered moves ok k = elim (a_move m given text k.emits refl k.gathers_on.going k.above k.said k.gathers_on.walk) [
    | inl out ↦ ran_out_then out
    | inr g ↦ by_move text answered moves (ok text moves) g
  ]

-- AN ENTRY OF THE FETCH

-- what an entry by bytes comes to: so many were taken, and the rest is still to be given, or nothing of it will be
pub data PartDid (c : WebCall) (n : ℕ) (gs : List (Stage Obj Load)) (d : Dialogue) (ms : List Said) (ds : List (Deed Obj Load)) (q : AskParts) (stream : List ℕ) (m : Said) : Type 0 where
  part_failed : RanOut ds → PartDid c n gs d ms ds q stream m
  part_goes : (count : ℕ) (core : Core) (given : List ℕ) (a : List (NodeEntry Obj Load)) → count ≤ length m.bytes → ReadsOn core (stream ++ take count m.bytes) given → gathers a ≡ true → taken_below a ≡ given
      → Walk c n (view true true true true) (Holds (port_at c.web 1) way.Up (left count m) ∷ gs) a (fetching q core (stream ++ take count m.bytes) given) d ms None ds → PartDid c n gs d ms ds q stream m
  part_decides : (count : ℕ) (core : Core) (given : List ℕ) (x : Cause) → Decided c n gs d ms ds q m.rec false core (stream ++ take count m.bytes) given x → PartDid c n gs d ms ds q stream m

module _ {c : WebCall} {n : ℕ} {gs : List (Stage Obj Load)} {a : List (NodeEntry Obj Load)} {d : Dialogue} {ms : List Said} {ds : List (Deed Obj Load)} {q : AskParts} {core : Core} {stream given : List ℕ} {m : Said} (reads : ReadsOn core stream given) (going : gathers a ≡ true) (taken : taken_below a ≡ given) (begun : IsBegun d) where
  part_by : (over : Option Cause) (new : Core) (gave : List ℕ) (fx : Fx Obj Load) → fx.took ≤ length m.bytes → TakesBytes m.rec core new (take fx.took m.bytes) gave over
      → WebEffects web_carrier m [] (gives_says m.rec gave ++ moves_says m.rec (moved_at_end over new)) (closes_for over) fx
      → Walk c n (view true true true true) (runs_of obj_nature c.web m true fx ++ Holds (port_at c.web 1) way.Up (left fx.took m) ∷ gs) a (fetched_on q new (stream ++ take fx.took m.bytes) (given ++ gave) over) d ms None ds
      → PartDid c n gs d ms ds q stream m
  part_by None new gave fx few takes effects k =
      let t = takes stream given reads.stands reads.goes_on in
      let fits : length (given ++ gave) ≤ 268435456 = subst (λ (y : List ℕ). length y ≤ 268435456) t.0.bytes (bodies_are_limited (stream ++ take fx.took m.bytes)) in
      let hs : List (Stage Obj Load) = Holds (port_at c.web 1) way.Up (left fx.took m) ∷ gs in
      let r : WebTalk = fetching q new (stream ++ take fx.took m.bytes) (given ++ gave) in
      let w : Walk c n (view true true true true) (emits_stages c.web m (emits_of fx.ups) ++ hs) a r d ms None ds =
      as_stages (emits_stages c.web m (emits_of fx.ups) ++ hs) (ap (λ (x : List (Stage Obj Load)). x ++ hs) (runs_up c.web m fx [] effects.no_make effects.downs effects.closes) ∙ append_assoc (emits_stages c.web m (emits_of fx.ups)) [] hs) k in
      elim (bytes_up hs m given gave going taken fits (nat_lt 0 (length gave)) (emits_of fx.ups) [] refl effects.ups effects.above w) [
        | inl out ↦ part_failed out
        | inr y ↦
            let g = no_move m (given ++ gave) y in
            part_goes fx.took new (given ++ gave) g.above few (record {
              rec = m.rec;
              ran = took reads.rec m.rec core new stream given (take fx.took m.bytes) gave None None reads.ran reads.goes_on takes;
              stands = t.0;
              goes_on = t.0.decided ∙ goes_undecided m.rec (read_so_far (stream ++ take fx.took m.bytes)).verdict (sym t.1);
            }) g.going g.taken g.walk
      ]
  part_by (Some x) new gave fx few takes effects k =
      let t = takes stream given reads.stands reads.goes_on in
      let v : Verdict = (read_so_far (stream ++ take fx.took m.bytes)).verdict in
      let fits : length (given ++ gave) ≤ 268435456 = subst (λ (y : List ℕ). length y ≤ 268435456) t.0.bytes (bodies_are_limited (stream ++ take fx.took m.bytes)) in
      let r : WebTalk = web_decided q new (stream ++ take fx.took m.bytes) (given ++ gave) (Some x) in
      let hs : List (Stage Obj Load) = Holds (port_at c.web 1) way.Up (left fx.took m) ∷ gs in
      let ss : List (Stage Obj Load) = Closes (port_at c.web 0) x ∷ Closes (port_at c.web 1) x ∷ hs in
      let w : Walk c n (view true true true true) (emits_stages c.web m (emits_of fx.ups) ++ ss) a r d ms None ds =
      as_stages (emits_stages c.web m (emits_of fx.ups) ++ ss)
      (ap (λ (y : List (Stage Obj Load)). y ++ hs) (runs_up c.web m fx ((0, x) ∷ (1, x) ∷ []) effects.no_make effects.downs effects.closes) ∙ append_assoc (emits_stages c.web m (emits_of fx.ups)) (Closes (port_at c.web 0) x ∷ Closes (port_at c.web 1) x ∷ []) hs) k in
      let ran : Ran m.rec new (stream ++ take fx.took m.bytes) (given ++ gave) (Some x) = took reads.rec m.rec core new stream given (take fx.took m.bytes) gave None (Some x) reads.ran reads.goes_on takes in
      let answered : ReadsSo m.rec false new (stream ++ take fx.took m.bytes) (given ++ gave) x = λ later ended _. ends_as_response m.rec new (stream ++ take fx.took m.bytes) (given ++ gave) (Some x) ran (t.0.decided ∙ ends_decided m.rec v x (sym t.1)) later ended in
      elim (bytes_up ss m given gave going taken fits (nat_lt 0 (length gave)) (emits_of fx.ups) (moves_says m.rec (moved_text new.head new.state)) refl effects.ups effects.above w) [
        | inl out ↦ part_failed out
        | inr y ↦ part_decides fx.took new (given ++ gave) x
            (decide (left fx.took m) begun (moved_text new.head new.state) m answered refl (λ text is. move_ends m.rec v x text (sym t.0.moves ∙ is) (sym t.1)) y)
      ]

  -- the node answers bytes
  part_did : (done : Bool) (fx : Fx Obj Load) (p : WebTalk) → m.tag ≡ stream_tag_number Received → Fetched web_carrier (fetching q core stream given) (up 1 m c.now done fx) p
      → Walk c n (view true true true true) (runs_of obj_nature c.web m done fx ++ Holds (port_at c.web 1) way.Up (rest m done fx) ∷ gs) a p d ms None ds → PartDid c n gs d ms ds q stream m
  part_did false fx p tag did k = part_failed (web_fails (Holds (port_at c.web 1) way.Up (rest m false fx) ∷ gs) m fx k)
  part_did true fx _ tag (takes_part _ _ new _ _ gave _ _ _ _ over from few takes last effects) k = part_by over new gave fx few takes effects k
  part_did true fx _ tag (takes_end _ _ new _ _ _ _ _ _ over from ends all effects) k = absurd (let z : 5 ≡ 8 = sym tag ∙ eqb-true m.tag 8 from in omega (arith, z))
  part_did true fx _ tag (ends_early _ _ cut hands) k = absurd (let z = cut in cc)
  part_did true fx _ tag (stays_idle _ _ quiet asks) k = absurd (let z : not (((m.tag == 5)) || (m.tag == 8)) ≡ true = quiet in let y : (m.tag == 5) ≡ true = eq-eqb m.tag 5 tag in cc)

-- A MESSAGE OF BYTES

more_bytes : (stream bytes : List ℕ) (n : ℕ) → (stream ++ take n bytes) ++ drop n bytes ≡ stream ++ bytes
more_bytes stream bytes n = append_assoc stream (take n bytes) (drop n bytes) ∙ ap (λ z. stream ++ z) (take-append-drop n bytes)

pub decided_by : {c : WebCall} {n k : ℕ} {gs : List (Stage Obj Load)} {d : Dialogue} {ms : List Said} {ds : List (Deed Obj Load)} {q : AskParts} {rec : ℕ} {by_end : Bool} {core : Core} {taken given : List ℕ} {x : Cause} → n ≤ k → Decided c n gs d ms ds q rec by_end core taken given x → Decided c k gs d ms ds q rec by_end core taken given x
decided_by less (ran_out_then out) = ran_out_then out
decided_by less (is_decided_so a answers (closes_too e acts behind talks asked grows silent off k)) = is_decided_so a answers (closes_too e acts behind talks asked grows silent off (weaker less k))
decided_by less (is_decided_so a answers (is_over_already off k)) = is_decided_so a answers (is_over_already off (weaker less k))

-- what a message of bytes comes to: the fetch took all of it, or the response was decided by a part of it
pub data WebDid (c : WebCall) (n : ℕ) (gs : List (Stage Obj Load)) (d : Dialogue) (ms : List Said) (ds : List (Deed Obj Load)) (q : AskParts) (rec : ℕ) (stream bytes : List ℕ) : Type 0 where
  web_failed : RanOut ds → WebDid c n gs d ms ds q rec stream bytes
  web_goes : (core : Core) (given : List ℕ) (a : List (NodeEntry Obj Load)) → ReadsOn core (stream ++ bytes) given → gathers a ≡ true → taken_below a ≡ given
      → Walk c n (view true true true true) gs a (fetching q core (stream ++ bytes) given) d ms None ds → WebDid c n gs d ms ds q rec stream bytes
  web_ended : (core : Core) (part later given : List ℕ) (x : Cause) → bytes ≡ part ++ later → Decided c n gs d ms ds q rec false core (stream ++ part) given x → WebDid c n gs d ms ds q rec stream bytes

-- the rest of it was given too
then_rest : {c : WebCall} {n : ℕ} {gs : List (Stage Obj Load)} {d : Dialogue} {ms : List Said} {ds : List (Deed Obj Load)} {q : AskParts} {rec : ℕ} (stream bytes : List ℕ) (count : ℕ) → WebDid c n gs d ms ds q rec (stream ++ take count bytes) (drop count bytes) → WebDid c (suc n) gs d ms ds q rec stream bytes
then_rest stream bytes count (web_failed out) = web_failed out
then_rest {c = c} {n = n} {gs = gs} {d = d} {ms = ms} {ds = ds} {q = q} stream bytes count (web_goes core given a reads going taken k) =
    let same = more_bytes stream bytes count in
    web_goes core given a (subst (λ z. ReadsOn core z given) same reads) going taken (subst (λ z. Walk c (suc n) (view true true true true) gs a (fetching q core z given) d ms None ds) same (weaker (omega arith) k))
then_rest {c = c} {n = n} {gs = gs} {d = d} {ms = ms} {ds = ds} {q = q} {rec = rec} stream bytes count (web_ended core part later given x is k) =
    web_ended core (take count bytes ++ part) later given x (sym (take-append-drop count bytes) ∙ ap (λ z. take count bytes ++ z) is ∙ sym (append_assoc (take count bytes) part later))
    (subst (λ z. Decided c (suc n) gs d ms ds q rec false core z given x) (append_assoc stream (take count bytes) part) (decided_by (omega arith) k))

-- what is left is given again
abbrev GivenAgain : WebCall → ℕ → List (Stage Obj Load) → Dialogue → List Said → List (Deed Obj Load) → AskParts → List ℕ → Said → Type 0
GivenAgain c n gs d ms ds q stream m = (count : ℕ) (core : Core) (given : List ℕ) (a : List (NodeEntry Obj Load)) → ReadsOn core (stream ++ take count m.bytes) given → gathers a ≡ true → taken_below a ≡ given
    → Walk c n (view true true true true) (Holds (port_at c.web 1) way.Up (Some (said_behind count m)) ∷ gs) a (fetching q core (stream ++ take count m.bytes) given) d ms None ds → WebDid c n gs d ms ds q m.rec (stream ++ take count m.bytes) (drop count m.bytes)

module _ {c : WebCall} {n : ℕ} {gs : List (Stage Obj Load)} {d : Dialogue} {ms : List Said} {ds : List (Deed Obj Load)} {q : AskParts} {stream : List ℕ} (m : Said) where
  goes_then : (count : ℕ) (b : Bool) (core : Core) (given : List ℕ) (a : List (NodeEntry Obj Load)) → nat_lt count (length m.bytes) ≡ b → ReadsOn core (stream ++ take count m.bytes) given → gathers a ≡ true → taken_below a ≡ given → GivenAgain c n gs d ms ds q stream m
      → Walk c n (view true true true true) (Holds (port_at c.web 1) way.Up (if b then Some (said_behind count m) else None) ∷ gs) a (fetching q core (stream ++ take count m.bytes) given) d ms None ds → WebDid c (suc n) gs d ms ds q m.rec stream m.bytes
  goes_then count true core given a e reads going taken again w = then_rest stream m.bytes count (again count core given a reads going taken w)
  goes_then count false core given a e reads going taken again w =
      let all : take count m.bytes ≡ m.bytes = take_all count m.bytes (ltb-false count (length m.bytes) e) in
      web_goes core given a (subst (λ z. ReadsOn core (stream ++ z) given) all reads) going taken
      (subst (λ z. Walk c (suc n) (view true true true true) gs a (fetching q core (stream ++ z) given) d ms None ds) all (weaker (omega arith) (web_settles (left_by w))))

  part_then : PartDid c n gs d ms ds q stream m → GivenAgain c n gs d ms ds q stream m → WebDid c (suc n) gs d ms ds q m.rec stream m.bytes
  part_then (part_failed out) again = web_failed out
  part_then (part_goes count core given a few reads going taken w) again = goes_then count (nat_lt count (length m.bytes)) core given a refl reads going taken again w
  part_then (part_decides count core given x w) again = web_ended core (take count m.bytes) (drop count m.bytes) given x (sym (take-append-drop count m.bytes)) (decided_by (omega arith) w)

pub web_message : {c : WebCall} (n : ℕ) {gs : List (Stage Obj Load)} {a : List (NodeEntry Obj Load)} {d : Dialogue} {ms : List Said} {ds : List (Deed Obj Load)} {q : AskParts} {core : Core} {stream given : List ℕ} (m : Said) → m.tag ≡ stream_tag_number Received
    → ReadsOn core stream given → gathers a ≡ true → taken_below a ≡ given → IsBegun d → Walk c n (view true true true true) (Holds (port_at c.web 1) way.Up (Some m) ∷ gs) a (fetching q core stream given) d ms None ds → WebDid c n gs d ms ds q m.rec stream m.bytes
web_message zero m tag reads going taken begun k = absurd (let f = k.told.few in omega (arith, f))
web_message (suc n) m tag reads going taken begun k =
    let y = web_takes n refl k in
    part_then m (part_did reads going taken begun y.0 y.1 y.2 tag y.3 y.4) (λ count core2 given2 a2 reads2 going2 taken2 w. web_message n (said_behind count m) tag reads2 going2 taken2 begun w)

-- THE STREAM'S END

pub data EndDid (c : WebCall) (n : ℕ) (gs : List (Stage Obj Load)) (d : Dialogue) (ms : List Said) (ds : List (Deed Obj Load)) (q : AskParts) (rec : ℕ) (stream : List ℕ) : Type 0 where
  end_failed : RanOut ds → EndDid c n gs d ms ds q rec stream
  end_decides : (core : Core) (given : List ℕ) (x : Cause) → Decided c n gs d ms ds q rec true core stream given x → EndDid c n gs d ms ds q rec stream

module _ {c : WebCall} {n : ℕ} {gs : List (Stage Obj Load)} {a : List (NodeEntry Obj Load)} {d : Dialogue} {ms : List Said} {ds : List (Deed Obj Load)} {q : AskParts} {core : Core} {stream given : List ℕ} {m : Said} (reads : ReadsOn core stream given) (going : gathers a ≡ true) (taken : taken_below a ≡ given) (begun : IsBegun d) where
  end_by : (over : Option Cause) (new : Core) (fx : Fx Obj Load) → EndsStream m.rec core new over → WebEffects web_carrier m [] [] (closes_for over) fx
      → Walk c n (view true true true true) (runs_of obj_nature c.web m true fx ++ Holds (port_at c.web 1) way.Up (left fx.took m) ∷ gs) a (web_decided q new stream given over) d ms None ds → EndDid c n gs d ms ds q m.rec stream
  end_by None new fx ends effects k =
      let l = ends.live stream given reads.stands reads.goes_on in absurd (decided_ends m.rec (response_read stream true).verdict None l.1 l.2 refl)
  end_by (Some x) new fx ends effects k =
      let hs : List (Stage Obj Load) = Holds (port_at c.web 1) way.Up (left fx.took m) ∷ gs in
      let ss : List (Stage Obj Load) = Closes (port_at c.web 0) x ∷ Closes (port_at c.web 1) x ∷ hs in
      let at_end : ReadsSo m.rec true new stream given x = λ later ended whole.
      let w = whole refl in
      let all : stream ≡ stream ++ later = sym (append-nil stream) ∙ ap (λ z. stream ++ z) (sym w.0) in
      subst (λ z. EndsAsRead m.rec new given (Some x) (response_read (stream ++ later) z)) (sym w.1) (subst (λ z. EndsAsRead m.rec new given (Some x) (response_read z true)) all (finishes_as_response reads.rec m.rec core new stream given None (Some x) reads.ran reads.goes_on ends)) in
      let none : emits_stages c.web m (emits_of fx.ups) ≡ [] = ap (emits_stages c.web m) (none_said m (emits_of fx.ups) effects.ups) in
      let w : Walk c n (view true true true true) ss a (web_decided q new stream given (Some x)) d ms None ds =
      as_stages ss (ap (λ (y : List (Stage Obj Load)). y ++ hs) (runs_up c.web m fx ((0, x) ∷ (1, x) ∷ []) effects.no_make effects.downs effects.closes ∙ ap (λ (y : List (Stage Obj Load)). y ++ Closes (port_at c.web 0) x ∷ Closes (port_at c.web 1) x ∷ []) none)) k in
      end_decides new given x (by_close (left fx.took m) begun at_end (ends.unmoved reads.goes_on) (record { above = a; going = going; taken = taken; walk = w }))

  end_did : (done : Bool) (fx : Fx Obj Load) (p : WebTalk) → m.tag ≡ stream_tag_number End → Fetched web_carrier (fetching q core stream given) (up 1 m c.now done fx) p
      → Walk c n (view true true true true) (runs_of obj_nature c.web m done fx ++ Holds (port_at c.web 1) way.Up (rest m done fx) ∷ gs) a p d ms None ds → EndDid c n gs d ms ds q m.rec stream
  end_did false fx p tag did k = end_failed (web_fails (Holds (port_at c.web 1) way.Up (rest m false fx) ∷ gs) m fx k)
  end_did true fx _ tag (takes_part _ _ new _ _ gave _ _ _ _ over from few takes last effects) k = absurd (let z : 8 ≡ 5 = sym tag ∙ eqb-true m.tag 5 from in omega (arith, z))
  end_did true fx _ tag (takes_end _ _ new _ _ _ _ _ _ over from ends all effects) k = end_by over new fx ends effects k
  end_did true fx _ tag (ends_early _ _ cut hands) k = absurd (let z = cut in cc)
  end_did true fx _ tag (stays_idle _ _ quiet asks) k = absurd (let z : not (((m.tag == 5)) || (m.tag == 8)) ≡ true = quiet in let y : m.tag ≡ 8 = tag in let x : not ((8 == 5) || (8 == 8)) ≡ true = subst (λ (t : ℕ). not ((t == 5) || (t == 8)) ≡ true) y z in cc)

pub web_end : {c : WebCall} (n : ℕ) {gs : List (Stage Obj Load)} {a : List (NodeEntry Obj Load)} {d : Dialogue} {ms : List Said} {ds : List (Deed Obj Load)} {q : AskParts} {core : Core} {stream given : List ℕ} (m : Said) → m.tag ≡ stream_tag_number End
    → ReadsOn core stream given → gathers a ≡ true → taken_below a ≡ given → IsBegun d → Walk c n (view true true true true) (Holds (port_at c.web 1) way.Up (Some m) ∷ gs) a (fetching q core stream given) d ms None ds → EndDid c n gs d ms ds q m.rec stream
web_end zero m tag reads going taken begun k = absurd (let f = k.told.few in omega (arith, f))
web_end {c} (suc n) {gs} {a} {d} {ms} {ds} {q} {core} {stream} {given} m tag reads going taken begun k =
    let y = web_takes n refl k in
    after (end_did reads going taken begun y.0 y.1 y.2 tag y.3 y.4)
  where
    after : EndDid c n gs d ms ds q m.rec stream → EndDid c (suc n) gs d ms ds q m.rec stream
    after (end_failed out) = end_failed out
    after (end_decides core2 given2 x w) = end_decides core2 given2 x (decided_by (omega arith) w)
