-- What one entry of a Fetch makes of its trace.
use Rattle.std.proofs.Common.{◌≡◌, ℕ, ◌+◌, ◌++◌, ◌&&◌, ◌==◌, Bool, true, false, not, cond, List, [], ◌∷◌, length, min, take, Option, Some, None, refl, ap, sym, ◌∙◌, subst, append_assoc, if◌then◌else◌, nat_lt, arith}
use Rattle.std.specs.Prelude.{Result, Ok, Err, OnOk, OnErr, is_ok}
use Rattle.std.specs.List.{find}
use Rattle.std.specs.Option.{is_none, option_or, option_map_or, option_and_then}
use Rattle.std.proofs.lemmas.List.{append-nil}
use Rattle.std.proofs.lemmas.List.Concat.{flat_map-append}
use Rattle.std.proofs.lemmas.List.Folds.{find-append}
use Rattle.std.proofs.Math.Seq.{take-length}
use Rattle.std.specs.declared.alloc.Global.{Global}
use Rattle.nb_terms.specs.declared.cause.Cause.{Cause}
use Rattle.nb_effects.specs.declared.effects.Fx.{Fx}
use Rattle.nb_graph.specs.Trace.{Said, NodeEntry, up, down, closed, time, regain}
use Rattle.nb_graph.specs.Accounts.{taken_by}
use Rattle.nb_nodes.specs.declared.fetch.Fetch.{Fetch}
use Rattle.nb_nodes.specs.declared.fetch.Fetch.TheVariants.{Gathering, Whole, HandedOut, Moved, Failed}
use Rattle.nb_nodes.specs.declared.load.Load.{Load}
use Rattle.nb_nodes.specs.declared.obj.Obj.{Obj}
use Rattle.nb_nodes.specs.Carried.{CarriesNothing, AsksNone, both_closes}
use Rattle.nb_nodes.specs.Fetches.{body_too_large, is_gathering, is_complete, HasBody, moved_uri, brings_move, ends_fetch, first_end, is_ok_close, closed_well, moved_by_entry, moved_in, gathers, taken_below, passed_close, AsksUp, AsksMove, AsksOfUp, AsksHandDown, AsksOfFetch, EachOf, FetchStands, after_bytes_up, after_move, after_up, after_closing, gathered_len}

-- a trace with one entry more
taken_more : (t : List (NodeEntry Obj Load)) (e : NodeEntry Obj Load) → taken_below (t ++ e ∷ []) ≡ taken_below t ++ taken_by 1 e
taken_more t e = flat_map-append (λ (x : NodeEntry Obj Load). taken_by 1 x) t (e ∷ []) ∙ ap (λ z. taken_below t ++ z) (append-nil (taken_by 1 e))

none_of : (o : Option (NodeEntry Obj Load)) → is_none o ≡ true → o ≡ None
none_of None h = refl
none_of (Some e) h = absurd (let z = h in cc)

some_stays : (o p : Option (NodeEntry Obj Load)) → is_none o ≡ false → option_or o p ≡ o
some_stays None p h = absurd (let z = h in cc)
some_stays (Some e) p h = refl

ends_first : (t : List (NodeEntry Obj Load)) (e : NodeEntry Obj Load) → gathers t ≡ true → first_end (t ++ e ∷ []) ≡ cond (ends_fetch e) (Some e) None
ends_first t e h = find-append ends_fetch t (e ∷ []) ∙ ap (λ z. option_or z (find ends_fetch (e ∷ []))) (none_of (find ends_fetch t) h)

ends_before : (t : List (NodeEntry Obj Load)) (e : NodeEntry Obj Load) → gathers t ≡ false → first_end (t ++ e ∷ []) ≡ first_end t
ends_before t e h = find-append ends_fetch t (e ∷ []) ∙ some_stays (find ends_fetch t) (find ends_fetch (e ∷ [])) h

none_cond : (b : Bool) (e : NodeEntry Obj Load) → is_none (cond b (Some e) None) ≡ not b
none_cond true e = refl
none_cond false e = refl

well_cond : (b : Bool) (e : NodeEntry Obj Load) → option_map_or is_ok_close (cond b (Some e) None) false ≡ (b && is_ok_close e)
well_cond true e = refl
well_cond false e = refl

moved_cond : (b : Bool) (e : NodeEntry Obj Load) → option_and_then moved_by_entry (cond b (Some e) None) ≡ (if b then moved_by_entry e else None)
moved_cond true e = refl
moved_cond false e = refl

each_more : (before t : List (NodeEntry Obj Load)) (e : NodeEntry Obj Load) → EachOf AsksOfFetch before t → AsksOfFetch (before ++ t) e → EachOf AsksOfFetch before (t ++ e ∷ [])
each_more before [] e each last = (subst (λ (z : List (NodeEntry Obj Load)). AsksOfFetch z e) (append-nil before) last, tt)
each_more before (x ∷ t) e each last =
    (each.0, each_more (before ++ x ∷ []) t e each.1 (subst (λ (z : List (NodeEntry Obj Load)). AsksOfFetch z e) (sym (append_assoc before (x ∷ []) t)) last))

gathering_more : (g : Fetch) (t : List (NodeEntry Obj Load)) (e : NodeEntry Obj Load) (b : Bool) → gathers t ≡ b → (b ≡ true → is_gathering g ≡ not (ends_fetch e)) → (b ≡ false → is_gathering g ≡ false) → is_gathering g ≡ gathers (t ++ e ∷ [])
gathering_more g t e true h going ended = going refl ∙ sym (ap is_none (ends_first t e h) ∙ none_cond (ends_fetch e) e)
gathering_more g t e false h going ended = ended refl ∙ sym (ap is_none (ends_before t e h) ∙ h)

complete_more : (g : Fetch) (t : List (NodeEntry Obj Load)) (e : NodeEntry Obj Load) (b : Bool) → gathers t ≡ b → (b ≡ true → is_complete g ≡ (ends_fetch e && is_ok_close e)) → (b ≡ false → is_complete g ≡ closed_well t) → is_complete g ≡ closed_well (t ++ e ∷ [])
complete_more g t e true h going ended = going refl ∙ sym (ap (λ z. option_map_or is_ok_close z false) (ends_first t e h) ∙ well_cond (ends_fetch e) e)
complete_more g t e false h going ended = ended refl ∙ sym (ap (λ z. option_map_or is_ok_close z false) (ends_before t e h))

moved_more : (g : Fetch) (t : List (NodeEntry Obj Load)) (e : NodeEntry Obj Load) (b : Bool) → gathers t ≡ b → (b ≡ true → moved_uri g ≡ (if ends_fetch e then moved_by_entry e else None)) → (b ≡ false → moved_uri g ≡ moved_in t) → moved_uri g ≡ moved_in (t ++ e ∷ [])
moved_more g t e true h going ended = going refl ∙ sym (ap (option_and_then moved_by_entry) (ends_first t e h) ∙ moved_cond (ends_fetch e) e)
moved_more g t e false h going ended = ended refl ∙ sym (ap (option_and_then moved_by_entry) (ends_before t e h))

-- what it gathers, whether that is whole, and whether it moved, after an entry
fetch_on : (f g : Fetch) (t : List (NodeEntry Obj Load)) (e : NodeEntry Obj Load) → FetchStands f t → AsksOfFetch t e → HasBody g (taken_below t ++ taken_by 1 e)
    → (gathers t ≡ true → is_gathering g ≡ not (ends_fetch e)) → (gathers t ≡ true → is_complete g ≡ (ends_fetch e && is_ok_close e))
    → (gathers t ≡ false → is_gathering g ≡ false) → (gathers t ≡ false → is_complete g ≡ is_complete f)
    → (gathers t ≡ true → moved_uri g ≡ (if ends_fetch e then moved_by_entry e else None)) → (gathers t ≡ false → moved_uri g ≡ moved_uri f) → FetchStands g (t ++ e ∷ [])
fetch_on f g t e s asks body goes becomes stops stays moves rests =
    record {
      body = subst (λ (z : List ℕ). HasBody g z) (sym (taken_more t e)) body;
      gathering = gathering_more g t e (gathers t) refl goes stops;
      whole = complete_more g t e (gathers t) refl becomes (λ h. stays h ∙ s.whole);
      moved = moved_more g t e (gathers t) refl moves (λ h. rests h ∙ s.moved);
      asks = each_more [] t e s.asks asks;
    }

incomplete : (f : Fetch) → is_gathering f ≡ true → is_complete f ≡ false
incomplete (Gathering b al) h = refl
incomplete (Whole b) h = absurd (let z = h in cc)
incomplete HandedOut h = absurd (let z = h in cc)
incomplete (Moved u) h = refl
incomplete Failed h = refl

unmoved : (f : Fetch) → is_gathering f ≡ true → moved_uri f ≡ None
unmoved (Gathering b al) h = refl
unmoved (Whole b) h = refl
unmoved HandedOut h = refl
unmoved (Moved u) h = absurd (let z = h in cc)
unmoved Failed h = refl

-- an entry that changes nothing
fetch_idle : (f : Fetch) (t : List (NodeEntry Obj Load)) (e : NodeEntry Obj Load) → FetchStands f t → AsksOfFetch t e → taken_by 1 e ≡ [] → (gathers t ≡ true → ends_fetch e ≡ false) → FetchStands f (t ++ e ∷ [])
fetch_idle f t e s asks none going =
    fetch_on f f t e s asks (subst (λ (z : List ℕ). HasBody f z) (sym (ap (λ z. taken_below t ++ z) none ∙ append-nil (taken_below t))) s.body)
    (λ h. s.gathering ∙ h ∙ sym (ap not (going h)))
    (λ h. incomplete f (s.gathering ∙ h) ∙ sym (ap (λ z. z && is_ok_close e) (going h)))
    (λ h. s.gathering ∙ h) (λ h. refl)
    (λ h. unmoved f (s.gathering ∙ h) ∙ sym (ap (λ z. if z then moved_by_entry e else None) (going h))) (λ h. refl)

pub fetch_down : (f : Fetch) (t : List (NodeEntry Obj Load)) (m : Said) (now : ℕ) (fx : Fx Obj Load) → FetchStands f t → AsksHandDown (is_gathering f) m fx → FetchStands f (t ++ down m now true fx ∷ [])
fetch_down f t m now fx s asks = fetch_idle f t (down m now true fx) s (λ _. subst (λ (z : Bool). AsksHandDown z m fx) s.gathering asks) refl (λ _. refl)

pub fetch_time : (f : Fetch) (t : List (NodeEntry Obj Load)) (now : ℕ) (fx : Fx Obj Load) → FetchStands f t → AsksNone fx → FetchStands f (t ++ time now true fx ∷ [])
fetch_time f t now fx s asks = fetch_idle f t (time now true fx) s asks refl (λ _. refl)

pub fetch_regain : (f : Fetch) (t : List (NodeEntry Obj Load)) (l : Load) → FetchStands f t → FetchStands f (t ++ regain l ∷ [])
fetch_regain f t l s = fetch_idle f t (regain l) s tt refl (λ _. refl)

-- a port was closed
close_body : (al : Global) (one ok : Bool) (b bytes : List ℕ) → b ≡ bytes → HasBody (if one then (if ok then Whole b else Failed) else Gathering b al) bytes
close_body al true true b bytes h = h
close_body al true false b bytes h = tt
close_body al false ok b bytes h = h

close_gathering : (al : Global) (one ok : Bool) (b : List ℕ) → is_gathering (if one then (if ok then Whole b else Failed) else Gathering b al) ≡ not one
close_gathering al true true b = refl
close_gathering al true false b = refl
close_gathering al false ok b = refl

close_complete : (al : Global) (one ok : Bool) (b : List ℕ) → is_complete (if one then (if ok then Whole b else Failed) else Gathering b al) ≡ (one && ok)
close_complete al true true b = refl
close_complete al true false b = refl
close_complete al false ok b = refl

close_moved : (al : Global) (one ok : Bool) (b : List ℕ) → moved_uri (if one then (if ok then Whole b else Failed) else Gathering b al) ≡ (if one then None else None)
close_moved al true true b = refl
close_moved al true false b = refl
close_moved al false ok b = refl

closed_case : (f : Fetch) (t : List (NodeEntry Obj Load)) (slot : ℕ) (cause : Cause) (now : ℕ) (fx : Fx Obj Load) → FetchStands f t → CarriesNothing fx × (fx.closes.items ≡ passed_close (gathers t) slot cause) → FetchStands (after_closing f slot cause) (t ++ closed slot cause now fx ∷ [])
closed_case (Gathering b al) t slot cause now fx s asks =
    fetch_on (Gathering b al) (after_closing (Gathering b al) slot cause) t (closed slot cause now fx) s asks
    (close_body al (nat_lt slot 2) ((slot == 1) && (cause.code == 0)) b (taken_below t ++ []) (s.body ∙ sym (append-nil (taken_below t))))
    (λ h. close_gathering al (nat_lt slot 2) ((slot == 1) && (cause.code == 0)) b)
    (λ h. close_complete al (nat_lt slot 2) ((slot == 1) && (cause.code == 0)) b)
    (λ h. absurd (let z = s.gathering ∙ h in cc)) (λ h. absurd (let z = s.gathering ∙ h in cc))
    (λ h. close_moved al (nat_lt slot 2) ((slot == 1) && (cause.code == 0)) b) (λ h. absurd (let z = s.gathering ∙ h in cc))
closed_case (Whole b) t slot cause now fx s asks = fetch_idle (Whole b) t (closed slot cause now fx) s asks refl (λ h. absurd (let z = s.gathering ∙ h in cc))
closed_case HandedOut t slot cause now fx s asks = fetch_idle HandedOut t (closed slot cause now fx) s asks refl (λ h. absurd (let z = s.gathering ∙ h in cc))
closed_case (Moved u) t slot cause now fx s asks = fetch_idle (Moved u) t (closed slot cause now fx) s asks refl (λ h. absurd (let z = s.gathering ∙ h in cc))
closed_case Failed t slot cause now fx s asks = fetch_idle Failed t (closed slot cause now fx) s asks refl (λ h. absurd (let z = s.gathering ∙ h in cc))

pub fetch_closed : (f g : Fetch) (t : List (NodeEntry Obj Load)) (slot : ℕ) (cause : Cause) (now : ℕ) (fx : Fx Obj Load) → FetchStands f t → CarriesNothing fx → fx.closes.items ≡ passed_close (is_gathering f) slot cause → g ≡ after_closing f slot cause → FetchStands g (t ++ closed slot cause now fx ∷ [])
fetch_closed f g t slot cause now fx s sends closes e =
    subst (λ (z : Fetch). FetchStands z (t ++ closed slot cause now fx ∷ [])) (sym e) (closed_case f t slot cause now fx s (sends, closes ∙ ap (λ z. passed_close z slot cause) s.gathering))

-- memory ran out
pub fetch_failed : (f g : Fetch) (t : List (NodeEntry Obj Load)) (slot : ℕ) (m : Said) (now : ℕ) (fx : Fx Obj Load) → FetchStands f t → is_gathering f ≡ true → g ≡ Failed → FetchStands g (t ++ up slot m now false fx ∷ [])
fetch_failed f g t slot m now fx s h e =
    subst (λ (z : Fetch). FetchStands z (t ++ up slot m now false fx ∷ [])) (sym e)
    (fetch_on f Failed t (up slot m now false fx) s (λ no. absurd (let z = no in cc)) tt (λ _. refl) (λ _. refl) (λ no. refl) (λ no. absurd (let z = sym h ∙ s.gathering ∙ no in cc))
    (λ _. refl) (λ no. absurd (let z = sym h ∙ s.gathering ∙ no in cc)))

-- a message from below
up_body : (al : Global) (one big : Bool) (b rest taken : List ℕ) (took n : ℕ) → b ≡ taken → took ≡ (if one then (if big then 0 else length rest) else n) → HasBody (if one then (if big then Failed else Gathering (b ++ rest) al) else Gathering b al) (taken ++ (if one then take took rest else []))
up_body al true true b rest taken took n h e = tt
up_body al true false b rest taken took n h e = ap (λ z. z ++ rest) h ∙ ap (λ z. taken ++ z) (sym (ap (λ k. take k rest) e ∙ take-length rest))
up_body al false big b rest taken took n h e = h ∙ sym (append-nil taken)

up_ends : (one big : Bool) (xs : List (ℕ × Cause)) → xs ≡ (if one then (if big then both_closes body_too_large else []) else []) → nat_lt 0 (length xs) ≡ (one && big)
up_ends true true xs e = ap (λ (z : List (ℕ × Cause)). nat_lt 0 (length z)) e
up_ends true false xs e = ap (λ (z : List (ℕ × Cause)). nat_lt 0 (length z)) e
up_ends false big xs e = ap (λ (z : List (ℕ × Cause)). nat_lt 0 (length z)) e

up_gathering : (al : Global) (one big : Bool) (b c : List ℕ) → is_gathering (if one then (if big then Failed else Gathering c al) else Gathering b al) ≡ not (one && big)
up_gathering al true true b c = refl
up_gathering al true false b c = refl
up_gathering al false big b c = refl

up_complete : (al : Global) (one big ends : Bool) (b c : List ℕ) → is_complete (if one then (if big then Failed else Gathering c al) else Gathering b al) ≡ (ends && false)
up_complete al true true true b c = refl
up_complete al true true false b c = refl
up_complete al true false true b c = refl
up_complete al true false false b c = refl
up_complete al false big true b c = refl
up_complete al false big false b c = refl

up_moved : (al : Global) (one big ends move : Bool) (b c rest : List ℕ) → move ≡ false → moved_uri (if one then (if big then Failed else Gathering c al) else Gathering b al) ≡ (if ends then (if move then Some rest else None) else None)
up_moved al one big ends true b c rest h = absurd (let z = h in cc)
up_moved al true true true false b c rest h = refl
up_moved al true true false false b c rest h = refl
up_moved al true false true false b c rest h = refl
up_moved al true false false false b c rest h = refl
up_moved al false big true false b c rest h = refl
up_moved al false big false false b c rest h = refl

one_is : (n : ℕ) → (1 == n) ≡ (n == 1)
one_is n = grind arith

none_taken : (one : Bool) (took n : ℕ) (rest : List ℕ) → took ≡ (if one then 0 else n) → (if one then take took rest else []) ≡ []
none_taken true took n rest e = ap (λ k. take k rest) e
none_taken false took n rest e = refl

-- what a trace asks of a message that is no move, or one
of_bytes : (t : List (NodeEntry Obj Load)) (slot : ℕ) (m : Said) (now : ℕ) (fx : Fx Obj Load) → brings_move slot m ≡ false → AsksUp (gathers t) (length (taken_below t)) slot (length m.bytes) fx → AsksOfFetch t (up slot m now true fx)
of_bytes t slot m now fx other asks = λ _. subst (λ (z : Bool). AsksOfUp z (gathers t) (length (taken_below t)) slot m fx) (sym other) asks

of_move : (t : List (NodeEntry Obj Load)) (slot : ℕ) (m : Said) (now : ℕ) (fx : Fx Obj Load) → brings_move slot m ≡ true → AsksMove (gathers t) (length m.bytes) fx → AsksOfFetch t (up slot m now true fx)
of_move t slot m now fx move asks = λ _. subst (λ (z : Bool). AsksOfUp z (gathers t) (length (taken_below t)) slot m fx) (sym move) asks

up_idle : (f : Fetch) (t : List (NodeEntry Obj Load)) (slot : ℕ) (m : Said) (now : ℕ) (fx : Fx Obj Load) → FetchStands f t → is_gathering f ≡ false → brings_move slot m ≡ false → AsksUp false (length (taken_below t)) slot (length m.bytes) fx → FetchStands f (t ++ up slot m now true fx ∷ [])
up_idle f t slot m now fx s ended other asks =
    fetch_idle f t (up slot m now true fx) s
    (of_bytes t slot m now fx other (subst (λ (z : Bool). AsksUp z (length (taken_below t)) slot (length m.bytes) fx) (sym ended ∙ s.gathering) asks))
    (subst (λ (z : Bool). (if z then take fx.took m.bytes else []) ≡ []) (sym (one_is slot)) (none_taken (slot == 1) fx.took (min (length m.bytes) 4294967295) m.bytes asks.takes))
    (λ h. absurd (let z = sym ended ∙ s.gathering ∙ h in cc))

bytes_case : (f : Fetch) (t : List (NodeEntry Obj Load)) (slot : ℕ) (m : Said) (now : ℕ) (fx : Fx Obj Load) → FetchStands f t → brings_move slot m ≡ false → AsksUp (is_gathering f) (gathered_len f) slot (length m.bytes) fx → FetchStands (after_bytes_up f slot m.bytes) (t ++ up slot m now true fx ∷ [])
bytes_case (Gathering b al) t slot m now fx s other asks =
    let big : Bool = nat_lt 268435456 (length b + length m.bytes) in
    fetch_on (Gathering b al) (after_bytes_up (Gathering b al) slot m.bytes) t (up slot m now true fx) s
    (of_bytes t slot m now fx other (subst (λ (z : Bool). AsksUp z (length (taken_below t)) slot (length m.bytes) fx) s.gathering (subst (λ (z : List ℕ). AsksUp true (length z) slot (length m.bytes) fx) s.body asks)))
    (subst (λ (z : Bool). HasBody (after_bytes_up (Gathering b al) slot m.bytes) (taken_below t ++ (if z then take fx.took m.bytes else []))) (sym (one_is slot))
    (up_body al (slot == 1) big b m.bytes (taken_below t) fx.took (min (length m.bytes) 4294967295) s.body asks.takes))
    (λ h. up_gathering al (slot == 1) big b (b ++ m.bytes) ∙ sym (ap not (up_ends (slot == 1) big fx.closes.items asks.closes)))
    (λ h. up_complete al (slot == 1) big (nat_lt 0 (length fx.closes.items)) b (b ++ m.bytes))
    (λ h. absurd (let z = s.gathering ∙ h in cc)) (λ h. absurd (let z = s.gathering ∙ h in cc))
    (λ h. up_moved al (slot == 1) big (nat_lt 0 (length fx.closes.items)) (brings_move slot m) b (b ++ m.bytes) m.bytes other) (λ h. absurd (let z = s.gathering ∙ h in cc))
bytes_case (Whole b) t slot m now fx s other asks = up_idle (Whole b) t slot m now fx s refl other (record { sends = asks.sends; closes = asks.closes; takes = asks.takes })
bytes_case HandedOut t slot m now fx s other asks = up_idle HandedOut t slot m now fx s refl other (record { sends = asks.sends; closes = asks.closes; takes = asks.takes })
bytes_case (Moved u) t slot m now fx s other asks = up_idle (Moved u) t slot m now fx s refl other (record { sends = asks.sends; closes = asks.closes; takes = asks.takes })
bytes_case Failed t slot m now fx s other asks = up_idle Failed t slot m now fx s refl other (record { sends = asks.sends; closes = asks.closes; takes = asks.takes })

-- a move
none_of_move : (one : Bool) (took : ℕ) (rest : List ℕ) → took ≡ 0 → (if one then take took rest else []) ≡ []
none_of_move true took rest e = ap (λ k. take k rest) e
none_of_move false took rest e = refl

move_idle : (f : Fetch) (t : List (NodeEntry Obj Load)) (slot : ℕ) (m : Said) (now : ℕ) (fx : Fx Obj Load) → FetchStands f t → is_gathering f ≡ false → brings_move slot m ≡ true → AsksMove false (length m.bytes) fx → FetchStands f (t ++ up slot m now true fx ∷ [])
move_idle f t slot m now fx s ended move asks =
    fetch_idle f t (up slot m now true fx) s
    (of_move t slot m now fx move (subst (λ (z : Bool). AsksMove z (length m.bytes) fx) (sym ended ∙ s.gathering) asks))
    (none_of_move (1 == slot) fx.took m.bytes asks.takes)
    (λ h. absurd (let z = sym ended ∙ s.gathering ∙ h in cc))

move_case : (f : Fetch) (t : List (NodeEntry Obj Load)) (slot : ℕ) (m : Said) (now : ℕ) (fx : Fx Obj Load) → FetchStands f t → brings_move slot m ≡ true → AsksMove (is_gathering f) (length m.bytes) fx → FetchStands (after_move f m.bytes) (t ++ up slot m now true fx ∷ [])
move_case (Gathering b al) t slot m now fx s move asks =
    let ends : nat_lt 0 (length fx.closes.items) ≡ true = ap (λ (z : List (ℕ × Cause)). nat_lt 0 (length z)) asks.closes in
    fetch_on (Gathering b al) (Moved m.bytes) t (up slot m now true fx) s
    (of_move t slot m now fx move (subst (λ (z : Bool). AsksMove z (length m.bytes) fx) s.gathering asks)) tt
    (λ h. sym (ap not ends)) (λ h. sym (ap (λ z. z && false) ends))
    (λ h. refl) (λ h. absurd (let z = s.gathering ∙ h in cc))
    (λ h. sym (ap (λ z. if z then (if brings_move slot m then Some m.bytes else None) else None) ends ∙ ap (λ z. if z then Some m.bytes else None) move)) (λ h. absurd (let z = s.gathering ∙ h in cc))
move_case (Whole b) t slot m now fx s move asks = move_idle (Whole b) t slot m now fx s refl move (record { sends = asks.sends; closes = asks.closes; takes = asks.takes })
move_case HandedOut t slot m now fx s move asks = move_idle HandedOut t slot m now fx s refl move (record { sends = asks.sends; closes = asks.closes; takes = asks.takes })
move_case (Moved u) t slot m now fx s move asks = move_idle (Moved u) t slot m now fx s refl move (record { sends = asks.sends; closes = asks.closes; takes = asks.takes })
move_case Failed t slot m now fx s move asks = move_idle Failed t slot m now fx s refl move (record { sends = asks.sends; closes = asks.closes; takes = asks.takes })

up_case : (move : Bool) (f : Fetch) (t : List (NodeEntry Obj Load)) (slot : ℕ) (m : Said) (now : ℕ) (fx : Fx Obj Load) → FetchStands f t → brings_move slot m ≡ move → AsksOfUp move (is_gathering f) (gathered_len f) slot m fx
    → FetchStands (if move then after_move f m.bytes else after_bytes_up f slot m.bytes) (t ++ up slot m now true fx ∷ [])
up_case true f t slot m now fx s h asks = move_case f t slot m now fx s h asks
up_case false f t slot m now fx s h asks = bytes_case f t slot m now fx s h asks

pub fetch_up : (f g : Fetch) (t : List (NodeEntry Obj Load)) (slot : ℕ) (m : Said) (now : ℕ) (fx : Fx Obj Load) → FetchStands f t → AsksOfUp (brings_move slot m) (is_gathering f) (gathered_len f) slot m fx → g ≡ after_up f slot m → FetchStands g (t ++ up slot m now true fx ∷ [])
fetch_up f g t slot m now fx s asks e = subst (λ (z : Fetch). FetchStands z (t ++ up slot m now true fx ∷ [])) (sym e) (up_case (brings_move slot m) f t slot m now fx s refl asks)

-- whether it was done or not
pub fetch_ups : {U E : Type 0} (r : Result U E) (f g : Fetch) (t : List (NodeEntry Obj Load)) (slot : ℕ) (m : Said) (now : ℕ) (fx : Fx Obj Load) → FetchStands f t
    → OnOk r (AsksOfUp (brings_move slot m) (is_gathering f) (gathered_len f) slot m fx) → OnOk r (g ≡ after_up f slot m) → OnErr r ((is_gathering f ≡ true) × (g ≡ Failed))
    → FetchStands g (t ++ up slot m now (is_ok r) fx ∷ [])
fetch_ups (Ok u) f g t slot m now fx s asks after failed = fetch_up f g t slot m now fx s asks after
fetch_ups (Err e) f g t slot m now fx s asks after failed = fetch_failed f g t slot m now fx s failed.0 failed.1
