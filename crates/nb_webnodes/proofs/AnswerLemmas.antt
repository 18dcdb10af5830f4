-- What the calls of a fetch's core make of it.
use Rattle.std.proofs.Common.{◌≡◌, ℕ, ◌<◌, ◌≤◌, Bool, true, false, List, [], ◌∷◌, ◌++◌, length, take, map, nat_lt, Option, Some, None, refl, ap, sym, ◌∙◌, subst, append-nil, arith, if◌then◌else◌}
use Rattle.std.proofs.lemmas.Bool.{eqb-true, lt-ltb}
use Rattle.std.proofs.lemmas.Option.{none-some}
use Rattle.httparse.proofs.RunLemmas.{length-slice_range}
use Rattle.std.specs.Prelude.{IfSome, slice_range}
use Rattle.std.specs.List.{AllByRecursion}
use Rattle.std.specs.Option.{is_some}
use Rattle.nb_terms.specs.declared.acts.Acts.{Acts}
use Rattle.nb_terms.specs.declared.cause.Cause.{Cause}
use Rattle.nb_effects.specs.declared.effects.Emit.{Emit}
use Rattle.nb_effects.specs.declared.effects.Few.{Few}
use Rattle.nb_effects.specs.declared.effects.Fx.{Fx}
use Rattle.nb_graph.specs.Trace.{Said, up, down, in_list, bytes_between}
use Rattle.nb_conns.specs.declared.stream_tag.StreamTag.TheVariants.{Begin, Send}
use Rattle.nb_conns.specs.StreamTags.{stream_tag_number}
use Rattle.nb_conns.specs.ConnEffects.{emits_of, GoesAbove, GoesBelow, received_says, closes_for, TookAll}
use Rattle.nb_responses.specs.Chunks.{Verdict, more, open_body, body, moved, status, broken, large, long, many}
use Rattle.nb_readings.specs.Readings.{read_so_far}
use Rattle.nb_readings.specs.Ends.{verdict_end, is_decided}
use Rattle.nb_http.specs.Standing.{Core, Kept, HasReadStream, TakesBytes, DecidesLast, EndsStream}
use Rattle.nb_http.specs.Giving.{TakesFirst, HandsUp, IsRangeWithin, range_given, gave, is_plain_body}
use Rattle.nb_http.specs.Runs.{Ran, started, took}
use Rattle.nb_webnodes.specs.declared.asking.Body.{Body}
use Rattle.nb_webnodes.specs.declared.asking.Body.TheVariants.{Range, Block}
use Rattle.nb_webnodes.specs.declared.stage.WebStage.{WebStage}
use Rattle.nb_webnodes.specs.declared.stage.WebStage.TheVariants.{Unasked, Fetching, Ended}
use Rattle.nb_webnodes.specs.WebAsks.{AskParts, web_ask_in}
use Rattle.nb_webnodes.specs.WebEffects.{WebCarrier, WebEffects, web_says, web_say, request_says, gives_says, moves_says, moved_at_end, body_for, block_body, body_emit, moved_emit, begin_emit, send_emit, AnswersUp, AsksBelow}
use Rattle.nb_webnodes.specs.WebTalks.{WebTalk, fetching, web_decided, is_from_below, fetched_on, Fetched, is_begun, takes_part, takes_end, ended_by_bytes, ended_by_stream, IsWebAt, before_begin, while_fetching, once_answered, once_cut, FetchesOn, WebStarts, stage_takes_web, stage_asks_web}

-- a cause is there exactly where the response is decided
none_decided : (rec : ℕ) (v : Verdict) → None ≡ verdict_end rec v → is_decided v ≡ false
none_decided rec more h = refl
none_decided rec open_body h = refl
none_decided rec body h = absurd (none-some _ h)
none_decided rec (moved text) h = absurd (none-some _ h)
none_decided rec (status code) h = absurd (none-some _ h)
none_decided rec broken h = absurd (none-some _ h)
none_decided rec large h = absurd (none-some _ h)
none_decided rec long h = absurd (none-some _ h)
none_decided rec many h = absurd (none-some _ h)

some_decided : (rec : ℕ) (c : Cause) (v : Verdict) → Some c ≡ verdict_end rec v → is_decided v ≡ true
some_decided rec c more h = absurd (none-some _ (sym h))
some_decided rec c open_body h = absurd (none-some _ (sym h))
some_decided rec c body h = refl
some_decided rec c (moved text) h = refl
some_decided rec c (status code) h = refl
some_decided rec c broken h = refl
some_decided rec c large h = refl
some_decided rec c long h = refl
some_decided rec c many h = refl

-- what of a body goes up, as it is said
abbrev body_says : Said → Option Body → List Said
body_says m None = []
body_says m (Some (Range from to)) = received_says m.rec (bytes_between m.bytes from to) ∷ []
body_says m (Some (Block text)) = received_says m.rec text ∷ []

one_body : {L : Type 0} (k : WebCarrier L) (m : Said) (b : Body) → web_says k m (body_emit k b) ∷ [] ≡ body_says m (Some b)
one_body k m (Range from to) = refl
one_body k m (Block text) = ap (λ z. received_says m.rec z ∷ []) (k.same_text text)

one_moved : {L : Type 0} (k : WebCarrier L) (m : Said) (text : List ℕ) → web_says k m (moved_emit k text) ∷ [] ≡ moves_says m.rec (Some text)
one_moved k m text = ap (λ z. moves_says m.rec (Some z)) (k.same_text text)

-- two messages, by what they are
said_by : {L : Type 0} (k : WebCarrier L) (m : Said) (f : Few (Emit L)) (o p : Option (Emit L)) → f.first ≡ o → f.second ≡ p → web_say k m f ≡ map (web_says k m) (in_list o ++ in_list p)
said_by {L} k m f o p a b = ap (λ (z : Option (Emit L)). map (web_says k m) (in_list z ++ in_list f.second)) a ∙ ap (λ (z : Option (Emit L)). map (web_says k m) (in_list o ++ in_list z)) b

goes_by : {L : Type 0} (P : Emit L → Type 0) (f : Few (Emit L)) (o p : Option (Emit L)) → f.first ≡ o → f.second ≡ p → AllByRecursion P (in_list o ++ in_list p) → AllByRecursion P (emits_of f)
goes_by {L} P f o p a b all =
    subst (λ (z : Option (Emit L)). AllByRecursion P (in_list z ++ in_list f.second)) (sym a)
    (subst (λ (z : Option (Emit L)). AllByRecursion P (in_list o ++ in_list z)) (sym b) all)

up_says : {L : Type 0} (k : WebCarrier L) (m : Said) (b : Option Body) (v : Option (List ℕ)) (f : Few (Emit L)) → AnswersUp k b v f → web_say k m f ≡ body_says m b ++ moves_says m.rec v
up_says k m None None f h = said_by k m f None None h.0 h.1
up_says k m (Some b) None f h = said_by k m f (Some (body_emit k b)) None h.0 h.1 ∙ one_body k m b ∙ sym (append-nil (body_says m (Some b)))
up_says k m None (Some text) f h = said_by k m f (Some (moved_emit k text)) None h.0 h.1 ∙ one_moved k m text
up_says k m (Some b) (Some text) f h = said_by k m f (Some (body_emit k b)) (Some (moved_emit k text)) h.0 h.1 ∙ ap (λ z. z ++ (web_says k m (moved_emit k text) ∷ [])) (one_body k m b) ∙ ap (λ z. body_says m (Some b) ++ z) (one_moved k m text)

body_goes : {L : Type 0} (k : WebCarrier L) (b : Body) → GoesAbove (body_emit k b)
body_goes k (Range from to) = refl
body_goes k (Block text) = refl

up_goes : {L : Type 0} (k : WebCarrier L) (b : Option Body) (v : Option (List ℕ)) (f : Few (Emit L)) → AnswersUp k b v f → AllByRecursion GoesAbove (emits_of f)
up_goes k None None f h = goes_by GoesAbove f None None h.0 h.1 tt
up_goes k (Some b) None f h = goes_by GoesAbove f (Some (body_emit k b)) None h.0 h.1 (body_goes k b, tt)
up_goes k None (Some text) f h = goes_by GoesAbove f (Some (moved_emit k text)) None h.0 h.1 (refl, tt)
up_goes k (Some b) (Some text) f h = goes_by GoesAbove f (Some (body_emit k b)) (Some (moved_emit k text)) h.0 h.1 (body_goes k b, (refl, tt))

-- bytes that are given go up as one message
gives_some : (rec : ℕ) (xs : List ℕ) → 0 < length xs → received_says rec xs ∷ [] ≡ gives_says rec xs
gives_some rec xs h = ap (λ (b : Bool). if b then received_says rec xs ∷ [] else []) (sym (lt-ltb 0 (length xs) h))

block_by : (m : Said) (block : List ℕ) (b : Bool) → body_says m (if b then Some (Block block) else None) ≡ (if b then received_says m.rec block ∷ [] else [])
block_by m block true = refl
block_by m block false = refl

block_said : (m : Said) (block : List ℕ) → body_says m (block_body block) ≡ gives_says m.rec block
block_said m block = block_by m block (nat_lt 0 (length block))

body_said_by : (m : Said) (count : ℕ) (give : Option (ℕ × ℕ)) (block : List ℕ) → count ≤ length m.bytes → IfSome give (IsRangeWithin count) → ((r : ℕ × ℕ) → give ≡ Some r → block ≡ [])
    → body_says m (body_for give block) ≡ gives_says m.rec (range_given m.bytes give ++ block)
body_said_by m count None block w h none = block_said m block
body_said_by m count (Some r) block w h none =
    gives_some m.rec (slice_range m.bytes r.0 r.1) (subst (λ z. 0 < z) (sym (length-slice_range m.bytes r.0 r.1 (let a = h.0 in omega (arith, a)) (let b = h.1 in omega (arith, w, b)))) (let a = h.0 in omega (arith, a))) ∙ ap (λ z. gives_says m.rec z) (sym (append-nil (slice_range m.bytes r.0 r.1)) ∙ ap (λ z. slice_range m.bytes r.0 r.1 ++ z) (sym (none r refl)))

no_block : (plain : Bool) (waiting : ℕ) (block : List ℕ) (give : Option (ℕ × ℕ)) (r : ℕ × ℕ) → (plain ≡ true → waiting ≡ 0) → (plain ≡ false → give ≡ None) → give ≡ Some r → take waiting block ≡ []
no_block true waiting block give r p g e = ap (λ z. take z block) (p refl)
no_block false waiting block give r p g e = absurd (none-some r (sym (g refl) ∙ e))

-- what a call of the core gave goes up
body_said : (m : Said) (old : Core) (new : Kept) (acts : Acts) (count : ℕ) → count ≤ length m.bytes → HandsUp old new acts count
    → body_says m (body_for acts.give (take new.waiting new.core.chunks.block)) ≡ gives_says m.rec (gave m.bytes acts new)
body_said m old new acts count w h = body_said_by m count acts.give (take new.waiting new.core.chunks.block) w h.range (λ r e. no_block (is_plain_body old.state) new.waiting new.core.chunks.block acts.give r (λ p. (h.plain p).0) h.gathered e)

-- where a core is after a call
after_at : (a : AskParts) (rec : ℕ) (new : Kept) (stream given : List ℕ) (over : Option Cause) (w : WebStage) → w ≡ (if is_some over then Ended else Fetching new)
    → Ran rec new.core stream given over → HasReadStream new.core stream given → over ≡ verdict_end rec (read_so_far stream).verdict → IsWebAt w (fetched_on a new.core stream given over)
after_at a rec new stream given None w e ran stands ends =
    subst (λ (z : WebStage). IsWebAt z (fetching a new.core stream given)) (sym e)
    (while_fetching new a new.core stream given refl (record { rec = rec; ran = ran; stands = stands; goes_on = stands.decided ∙ none_decided rec (read_so_far stream).verdict ends }))
after_at a rec new stream given (Some c) w e ran stands ends =
    subst (λ (z : WebStage). IsWebAt z (web_decided a new.core stream given (Some c))) (sym e)
    (once_answered a new.core stream given (Some c) (ended_by_bytes rec new.core stream given (Some c) ran (stands.decided ∙ some_decided rec c (read_so_far stream).verdict ends)))

-- nothing is sent down, and this goes up
up_effects : {N L : Type 0} (k : WebCarrier L) (m : Said) (ups : List Said) (shut : List (ℕ × Cause)) (fx : Fx N L) → fx.makes ≡ None → fx.downs.first ≡ None → fx.downs.second ≡ None
    → web_say k m fx.ups ≡ ups → AllByRecursion GoesAbove (emits_of fx.ups) → fx.closes.items ≡ shut → WebEffects k m [] ups shut fx
up_effects k m ups shut fx mk d e u a c = record { no_make = mk; downs = said_by k m fx.downs None None d e; below = goes_by GoesBelow fx.downs None None d e tt; ups = u; above = a; closes = c }

-- bytes of the stream come
part_at : {N L : Type 0} (k : WebCarrier L) (m : Said) (slot now : ℕ) (fx : Fx N L) (v : WebStage) (new : Kept) (acts : Acts) (w : WebStage) (h : Kept) → v ≡ Fetching h
    → is_from_below 5 slot m ≡ true → TakesFirst m.rec h.core new m.bytes fx.took acts → fx.took ≤ length m.bytes → DecidesLast h.core (take fx.took m.bytes) → HandsUp h.core new acts fx.took
    → WebEffects k m [] (gives_says m.rec (gave m.bytes acts new) ++ moves_says m.rec (moved_at_end acts.over new.core)) (closes_for acts.over) fx
    → w ≡ (if is_some acts.over then Ended else Fetching new)
    → (d : WebTalk) → IsWebAt v d → (f : WebTalk) × Fetched k d (up slot m now true fx) f × IsWebAt w f
part_at k m slot now fx _ new acts w h v from takes within least hands effects stage _ before_begin = absurd (let z = v in cc)
part_at k m slot now fx _ new acts w h v from takes within least hands effects stage _ (while_fetching o a c stream given e r) =
    let same : h.core ≡ c = (let z = v in let y = e in cc) in
    let gives : TakesBytes m.rec c new.core (take fx.took m.bytes) (gave m.bytes acts new) acts.over = subst (λ (z : Core). TakesBytes m.rec z new.core (take fx.took m.bytes) (gave m.bytes acts new) acts.over) same takes in
    let after = gives stream given r.stands r.goes_on in (
      fetched_on a new.core (stream ++ take fx.took m.bytes) (given ++ gave m.bytes acts new) acts.over,
      takes_part a c new.core stream given (gave m.bytes acts new) slot m now fx acts.over from within gives (subst (λ (z : Core). DecidesLast z (take fx.took m.bytes)) same least) effects,
      after_at a m.rec new (stream ++ take fx.took m.bytes) (given ++ gave m.bytes acts new) acts.over w stage
          (took r.rec m.rec c new.core stream given (take fx.took m.bytes) (gave m.bytes acts new) None acts.over r.ran r.goes_on gives) after.0 after.1,
    )
part_at k m slot now fx _ new acts w h v from takes within least hands effects stage _ (once_answered a c stream given over r) = absurd (let z = v in cc)
part_at k m slot now fx _ new acts w h v from takes within least hands effects stage _ once_cut = absurd (let z = v in cc)

from_of : (w : WebStage) (tag slot : ℕ) (m : Said) → stage_takes_web w tag slot m ≡ true → is_from_below tag slot m ≡ true
from_of Unasked tag slot m h = absurd (let z = h in cc)
from_of (Fetching k) tag slot m h = h
from_of Ended tag slot m h = absurd (let z = h in cc)

pub part_on : {N L : Type 0} (k : WebCarrier L) (m : Said) (slot now : ℕ) (fx : Fx N L) (v : WebStage) (new : Kept) (acts : Acts) (w : WebStage) (h : Kept) (b : Option Body) (text : Option (List ℕ)) → v ≡ Fetching h
    → stage_takes_web v 5 slot m ≡ true → TakesFirst m.rec h.core new m.bytes fx.took acts → fx.took ≤ length m.bytes → DecidesLast h.core (take fx.took m.bytes) → HandsUp h.core new acts fx.took
    → b ≡ body_for acts.give (take new.waiting new.core.chunks.block) → text ≡ moved_at_end acts.over new.core → AnswersUp k b text fx.ups
    → fx.makes ≡ None → fx.downs.first ≡ None → fx.downs.second ≡ None → fx.closes.items ≡ closes_for acts.over
    → w ≡ (if is_some acts.over then Ended else Fetching new) → FetchesOn k v w (up slot m now true fx)
part_on k m slot now fx v new acts w h b text e from takes within least hands whole move ups mk d1 d2 cl stage =
    part_at k m slot now fx v new acts w h e (from_of v 5 slot m from) takes within least hands
    (up_effects k m _ _ fx mk d1 d2
    (up_says k m b text fx.ups ups ∙ ap (λ (z : Option Body). body_says m z ++ moves_says m.rec text) whole ∙ ap (λ z. z ++ moves_says m.rec text) (body_said m h.core new acts fx.took within hands) ∙ ap (λ z. gives_says m.rec (gave m.bytes acts new) ++ moves_says m.rec z) move)
    (up_goes k b text fx.ups ups) cl) stage

-- bytes of the stream come, and a range of them goes up, and nothing else
pub range_on : {N L : Type 0} (k : WebCarrier L) (m : Said) (slot now : ℕ) (fx : Fx N L) (v : WebStage) (new : Kept) (acts : Acts) (h : Kept) (from to : ℕ) → v ≡ Fetching h
    → stage_takes_web v 5 slot m ≡ true → TakesFirst m.rec h.core new m.bytes fx.took acts → fx.took ≤ length m.bytes → DecidesLast h.core (take fx.took m.bytes) → HandsUp h.core new acts fx.took
    → acts.give ≡ Some (from, to) → acts.over ≡ None → AnswersUp k (Some (Range from to)) None fx.ups
    → fx.makes ≡ None → fx.downs.first ≡ None → fx.downs.second ≡ None → fx.closes.items ≡ [] → FetchesOn k v (Fetching new) (up slot m now true fx)
range_on k m slot now fx v new acts h from to e takes first within least hands give over ups mk d1 d2 cl =
    part_on k m slot now fx v new acts (Fetching new) h (Some (Range from to)) None e takes first within least hands
    (sym (ap (λ (o : Option (ℕ × ℕ)). body_for o (take new.waiting new.core.chunks.block)) give))
    (sym (ap (λ (o : Option Cause). moved_at_end o new.core) over)) ups mk d1 d2
    (cl ∙ sym (ap (λ (o : Option Cause). closes_for o) over))
    (sym (ap (λ (o : Option Cause). if is_some o then Ended else Fetching new) over))

-- the stream's end comes
pub ended_on : {N L : Type 0} (k : WebCarrier L) (m : Said) (slot now : ℕ) (fx : Fx N L) (v w : WebStage) (h : Kept) (new : Core) (over : Option Cause) → v ≡ Fetching h → w ≡ Ended
    → stage_takes_web v 8 slot m ≡ true → EndsStream m.rec h.core new over → TookAll m fx → fx.makes ≡ None → fx.downs.first ≡ None → fx.downs.second ≡ None → fx.ups.first ≡ None → fx.ups.second ≡ None
    → fx.closes.items ≡ closes_for over → FetchesOn k v w (up slot m now true fx)
ended_on {N} {L} k m slot now fx v w h new over e o from ends all mk d1 d2 u1 u2 cl = subst (λ (z : WebStage). FetchesOn k v z (up slot m now true fx)) (sym o) (at v e (from_of v 8 slot m from))
  where
    effects : WebEffects k m [] [] (closes_for over) fx
    effects = up_effects k m [] _ fx mk d1 d2 (said_by k m fx.ups None None u1 u2) (goes_by GoesAbove fx.ups None None u1 u2 tt) cl

    at : (v : WebStage) → v ≡ Fetching h → is_from_below 8 slot m ≡ true → (d : WebTalk) → IsWebAt v d → (f : WebTalk) × Fetched k d (up slot m now true fx) f × IsWebAt Ended f
    at _ v from _ before_begin = absurd (let z = v in cc)
    at _ v from _ (while_fetching o a c stream given e r) =
        let same : h.core ≡ c = (let z = v in let y = e in cc) in
        let finish : EndsStream m.rec c new over = subst (λ (z : Core). EndsStream m.rec z new over) same ends in
        (web_decided a new stream given over, takes_end a c new stream given slot m now fx over from finish all effects, once_answered a new stream given over (ended_by_stream m.rec c new stream given over r finish))
    at _ v from _ (once_answered a c stream given over r) = absurd (let z = v in cc)
    at _ v from _ once_cut = absurd (let z = v in cc)

-- the fetch begins
pub begun_on : {N L : Type 0} (k : WebCarrier L) (m : Said) (now : ℕ) (fx : Fx N L) (v : WebStage) (h : Kept) (a : AskParts) (text : List ℕ) → stage_asks_web v m ≡ true → web_ask_in m.a m.bytes ≡ Some a → WebStarts a h text
    → AsksBelow k text fx.downs → fx.makes ≡ None → fx.ups.first ≡ None → fx.ups.second ≡ None → fx.closes.items ≡ [] → FetchesOn k v (Fetching h) (down m now true fx)
begun_on {N} {L} k m now fx v h a text asks ask s below mk u1 u2 cl = at v asks
  where
    effects : WebEffects k m (request_says m a) [] [] fx
    effects = record {
      no_make = mk;
      downs = said_by k m fx.downs (Some begin_emit) (Some (send_emit k text)) below.0 below.1
          ∙ ap (λ z. record { tag = stream_tag_number Begin; rec = m.rec; a = 0; b = 0; bytes = take 16 m.bytes } ∷ record { tag = stream_tag_number Send; rec = m.rec; a = 0; b = 0; bytes = z } ∷ []) (k.same_text text ∙ s.request);
      below = goes_by GoesBelow fx.downs (Some begin_emit) (Some (send_emit k text)) below.0 below.1 (refl, (refl, tt));
      ups = said_by k m fx.ups None None u1 u2;
      above = goes_by GoesAbove fx.ups None None u1 u2 tt;
      closes = cl;
    }

    at : (v : WebStage) → stage_asks_web v m ≡ true → (d : WebTalk) → IsWebAt v d → (f : WebTalk) × Fetched k d (down m now true fx) f × IsWebAt (Fetching h) f
    at _ t _ before_begin = (
      fetching a h.core [] [],
      is_begun a h.core m now fx (eqb-true m.tag 1 t) ask s.stands s.goes_on effects,
      while_fetching h a h.core [] [] refl (record { rec = 0; ran = started 0 h.core s.stands s.goes_on; stands = s.stands; goes_on = s.goes_on }),
    )
    at _ t _ (while_fetching o a c stream given e r) = absurd (let z = t in cc)
    at _ t _ (once_answered a c stream given over r) = absurd (let z = t in cc)
    at _ t _ once_cut = absurd (let z = t in cc)
