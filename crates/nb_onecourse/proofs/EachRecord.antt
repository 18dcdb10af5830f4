-- What a record does to the devices and to the opens is one, where none of these has ended.
use Rattle.std.proofs.Common.{◌≡◌, ℕ, ◌+◌, Bool, true, false, ◌||◌, List, [], ◌∷◌, ◌++◌, Some, refl, sym, ◌∙◌, ap, subst}
use Rattle.std.specs.Prelude.{slice_get}
use Rattle.std.specs.List.{list_any, AllByRecursion}
use Rattle.nb_defs.specs.Records.{In, frame, tick, off, Out}
use Rattle.nb_stack.specs.Client.{Client}
use Rattle.nb_stack.specs.Brings.{Brought, nothing, arp_message, datagram, echo_request, echo_reply, segment, Brings}
use Rattle.nb_stack.specs.Takes.{client_after}
use Rattle.nb_stack.proofs.MessageLaws.{message_one}
use Rattle.nb_machine.specs.CommandRecords.{reply_records}
use Rattle.nb_machine.specs.Lives.{OpenInput, message, tcp_segment, time, Live}
use Rattle.nb_machine.specs.Kinds.{is_for, is_reply_for, is_segment_for, reply_beside}
use Rattle.nb_machine.specs.States.{State, net0, with_device, with_live, later_by}
use Rattle.nb_machine.specs.Takings.{Over, AllTake}
use Rattle.nb_machine.specs.Network.{on_net0, Network, passes_by, brings, brings_reply, brings_segment, passes_time, is_for_one}
use Rattle.nb_onecourse.specs.Answers.{IsUnended}
use Rattle.nb_onecourse.proofs.EachTakes.{one_link, all_take_one, all_take_unended}

-- an open takes what a frame brought
takes_it : Brought → Live → Bool
takes_it (datagram p d) l = is_for net0 p d l
takes_it (echo_reply p e) l = is_reply_for net0 p e l
takes_it nothing l = false
takes_it (arp_message from arp) l = false
takes_it (echo_request from p e) l = false
takes_it (segment from p g) l = is_segment_for net0 p g l

-- what comes to it then, in this record, at this time
input_of : ℕ → ℕ → Brought → OpenInput
input_of n now (datagram p d) = message n d.src_port d.body now
input_of n now (echo_reply p e) = message n e.ident e.body now
input_of n now nothing = time now
input_of n now (arp_message from arp) = time now
input_of n now (echo_request from p e) = time now
input_of n now (segment from p g) = tcp_segment n g now

-- what a frame does that brought this
data DidWith (s : State) (n : ℕ) (link : Client) (m : Brought) (put : List Out) (after : State) (over : List Over) : Type 0 where
  was_passed : is_for_one net0 m s.live ≡ false → put ≡ reply_records (reply_beside net0 s.live link m) → after ≡ with_device s net0 (client_after link m) → over ≡ [] → DidWith s n link m put after over
  was_taken : (before behind rest : List Live) (l : Live) → s.live ≡ before ++ l ∷ behind → takes_it m l ≡ true → list_any (takes_it m) before ≡ false →
      AllTake s.devices (input_of n s.now m) (l ∷ []) put rest over → after ≡ with_live s (before ++ rest ++ behind) → DidWith s n link m put after over

-- what a record does
data Did (s : State) (n : ℕ) (r : In) (put : List Out) (after : State) (over : List Over) : Type 0 where
  by_frame : (bytes : List ℕ) (link : Client) (m : Brought) → r ≡ frame bytes → slice_get s.devices net0 ≡ Some link → Brings link.up link.mac link.address bytes m → DidWith s n link m put after over → Did s n r put after over
  by_time : (ms : ℕ) (rest : List Live) → r ≡ tick ms → AllTake s.devices (time (s.now + ms)) s.live put rest over → after ≡ with_live (later_by s ms) rest → Did s n r put after over

did : (s : State) (n : ℕ) (r : In) (put : List Out) (after : State) (over : List Over) → Network s n r put after over → Did s n r put after over
unfolding takes_it input_of
did s n r put after over (passes_by _ _ _ link m (on_net0 bytes) got is none) = by_frame bytes link m refl got is (was_passed none refl refl refl)
did s n r put after over (brings _ _ _ link p d before behind rest l _ _ (on_net0 bytes) got is lives takes none others all) =
    by_frame bytes link (datagram p d) refl got is (was_taken before behind rest l lives takes none all refl)
did s n r put after over (brings_reply _ _ _ link p e before behind rest l _ _ (on_net0 bytes) got is lives takes none others all) =
    by_frame bytes link (echo_reply p e) refl got is (was_taken before behind rest l lives takes none all refl)
did s n r put after over (brings_segment _ _ _ link from p g before behind rest l _ _ (on_net0 bytes) got is lives takes none others all) =
    by_frame bytes link (segment from p g) refl got is (was_taken before behind rest l lives takes none all refl)
did s n r put after over (passes_time ms rest _ _ all) = by_time ms rest refl all refl

-- of a list, the one that takes it is one: the first of its kind stands at one place
pub record SamePlace (xs xs' : List Live) (l l' : Live) (ys ys' : List Live) : Type 0 where
  pub front : xs ≡ xs'
  pub here : l ≡ l'
  pub back : ys ≡ ys'

either_no : (a b : Bool) → (a || b) ≡ false → a ≡ true → ⊥
either_no true b e f = cc
either_no false b e f = cc

second_no : (a b : Bool) → (a || b) ≡ false → b ≡ false
second_no true b e = absurd (cc)
second_no false b e = e

pub one_place : (p : Live → Bool) (xs xs' ys ys' : List Live) (l l' : Live) → xs ++ l ∷ ys ≡ xs' ++ l' ∷ ys' → p l ≡ true → p l' ≡ true → list_any p xs ≡ false → list_any p xs' ≡ false → SamePlace xs xs' l l' ys ys'
one_place p [] [] ys ys' l l' e t t' n n' = record { front = refl; here = cc; back = cc }
one_place p [] (x ∷ xs') ys ys' l l' e t t' n n' = let same : l ≡ x = cc in absurd (either_no (p x) (list_any p xs') n' (subst (λ z. p z ≡ true) same t))
one_place p (x ∷ xs) [] ys ys' l l' e t t' n n' = let same : x ≡ l' = cc in absurd (either_no (p x) (list_any p xs) n (subst (λ z. p z ≡ true) (sym same) t'))
one_place p (x ∷ xs) (x' ∷ xs') ys ys' l l' e t t' n n' =
    let heads : x ≡ x' = cc in
    let tails : xs ++ l ∷ ys ≡ xs' ++ l' ∷ ys' = cc in
    let k = one_place p xs xs' ys ys' l l' tails t t' (second_no (p x) (list_any p xs) n) (second_no (p x') (list_any p xs') n') in
    let fronts : xs ≡ xs' = k.front in
    record { front = cc; here = k.here; back = k.back }

any_true : (p : Live → Bool) (xs ys : List Live) (l : Live) → p l ≡ true → list_any p (xs ++ l ∷ ys) ≡ true
any_true p [] ys l t = ap (λ b. b || list_any p ys) t
any_true p (x ∷ xs) ys l t = or_right (p x) (list_any p (xs ++ l ∷ ys)) (any_true p xs ys l t)
  where
    or_right : (a b : Bool) → b ≡ true → (a || b) ≡ true
    or_right true b e = refl
    or_right false b e = e

no_other : (p : Live → Bool) (all xs ys : List Live) (l : Live) → list_any p all ≡ false → all ≡ xs ++ l ∷ ys → p l ≡ true → ⊥
no_other p all xs ys l none e t = let no : false ≡ true = sym none ∙ ap (list_any p) e ∙ any_true p xs ys l t in cc

-- a frame that is for none of them isn't taken
not_both : (m : Brought) (live before behind : List Live) (l : Live) → is_for_one net0 m live ≡ false → live ≡ before ++ l ∷ behind → takes_it m l ≡ true → ⊥
unfolding takes_it
not_both (datagram p d) live before behind l none lives t = no_other (is_for net0 p d) live before behind l none lives t
not_both (echo_reply p e) live before behind l none lives t = no_other (is_reply_for net0 p e) live before behind l none lives t
not_both nothing live before behind l none lives t = cc
not_both (arp_message from arp) live before behind l none lives t = cc
not_both (echo_request from p e) live before behind l none lives t = cc
not_both (segment from p g) live before behind l none lives t = no_other (is_segment_for net0 p g) live before behind l none lives t

-- the same records, the same state, and the same opens that ended
pub record SameStep (put put' : List Out) (s s' : State) (over over' : List Over) : Type 0 where
  pub records : put ≡ put'
  pub state : s ≡ s'
  pub ended : over ≡ over'

-- one of some has ended nothing where all have
pub other_unended : (xs ys : List Live) (l : Live) → AllByRecursion IsUnended (xs ++ l ∷ ys) → IsUnended l
other_unended [] ys l n = n.0
other_unended (x ∷ xs) ys l n = other_unended xs ys l n.1

with_one : (s : State) (n : ℕ) (link : Client) (m : Brought) (put put' : List Out) (after after' : State) (over over' : List Over) → AllByRecursion IsUnended s.live → DidWith s n link m put after over → DidWith s n link m put' after' over' →
    SameStep put put' after after' over over'
with_one s n link m put put' after after' over over' u (was_passed none p a o) (was_passed none' p' a' o') = record { records = p ∙ sym p'; state = a ∙ sym a'; ended = o ∙ sym o' }
with_one s n link m put put' after after' over over' u (was_passed none p a o) (was_taken before behind rest l lives takes first all a') = absurd (not_both m s.live before behind l none lives takes)
with_one s n link m put put' after after' over over' u (was_taken before behind rest l lives takes first all a) (was_passed none p' a' o') = absurd (not_both m s.live before behind l none lives takes)
with_one s n link m put put' after after' over over' u (was_taken before behind rest l lives takes first all a) (was_taken before' behind' rest' l' lives' takes' first' all' a') =
    let k = one_place (takes_it m) before before' behind behind' l l' (sym lives ∙ lives') takes takes' first first' in
    let t = all_take_one s.devices (input_of n s.now m) (l ∷ []) put put' rest rest' over over' (other_unended before behind l (subst (AllByRecursion IsUnended) lives u), tt) all
    (subst (λ z. AllTake s.devices (input_of n s.now m) (z ∷ []) put' rest' over') (sym k.here) all') in
    record {
      records = t.records;
      state = a ∙ ap (λ z. with_live s (z ++ rest ++ behind)) k.front ∙ ap (λ z. with_live s (before' ++ z ++ behind)) t.live ∙ ap (λ z. with_live s (before' ++ rest' ++ z)) k.back ∙ sym a';
      ended = t.ended;
    }

same_bytes : (r : In) (x y : List ℕ) → r ≡ frame x → r ≡ frame y → x ≡ y
same_bytes r x y e f = let both : frame x ≡ frame y = sym e ∙ f in cc

same_ms : (r : In) (x y : ℕ) → r ≡ tick x → r ≡ tick y → x ≡ y
same_ms r x y e f = let both : tick x ≡ tick y = sym e ∙ f in cc

no_tick : (r : In) (x : List ℕ) (ms : ℕ) → r ≡ frame x → r ≡ tick ms → ⊥
no_tick r x ms e f = let both : frame x ≡ tick ms = sym e ∙ f in cc

did_one : (s : State) (n : ℕ) (r : In) (put put' : List Out) (after after' : State) (over over' : List Over) → AllByRecursion IsUnended s.live → Did s n r put after over → Did s n r put' after' over' → SameStep put put' after after' over over'
did_one s n r put put' after after' over over' u (by_frame bytes link m e got is d) (by_time ms rest f all a) = absurd (no_tick r bytes ms e f)
did_one s n r put put' after after' over over' u (by_time ms rest f all a) (by_frame bytes link m e got is d) = absurd (no_tick r bytes ms e f)
did_one s n r put put' after after' over over' u (by_frame bytes link m e got is d) (by_frame bytes' link' m' e' got' is' d') =
    let links = one_link s.devices net0 link' link got' got in
    let bytes_same = same_bytes r bytes' bytes e' e in
    let brought = subst (λ z. Brings z.up z.mac z.address bytes m') links (subst (λ z. Brings link'.up link'.mac link'.address z m') bytes_same is') in
    let messages = message_one link.up link.mac link.address bytes m' m brought is in
    with_one s n link m put put' after after' over over' u d (subst (λ z. DidWith s n z m put' after' over') links (subst (λ z. DidWith s n link' z put' after' over') messages d'))
did_one s n r put put' after after' over over' u (by_time ms rest e all a) (by_time ms' rest' e' all' a') =
    let same = same_ms r ms' ms e' e in
    let t = all_take_one s.devices (time (s.now + ms)) s.live put put' rest rest' over over' u all (subst (λ z. AllTake s.devices (time (s.now + z)) s.live put' rest' over') same all') in
    record { records = t.records; state = a ∙ ap (λ z. with_live (later_by s ms) z) t.live ∙ ap (λ z. with_live (later_by s z) rest') (sym same) ∙ sym a'; ended = t.ended }

pub network_one : (s : State) (n : ℕ) (r : In) (put put' : List Out) (after after' : State) (over over' : List Over) → AllByRecursion IsUnended s.live → Network s n r put after over → Network s n r put' after' over' → SameStep put put' after after' over over'
network_one s n r put put' after after' over over' u x y = did_one s n r put put' after after' over over' u (did s n r put after over x) (did s n r put' after' over' y)

-- a START and an OFF do nothing so
pub network_not_off : (s : State) (n : ℕ) (r : In) (put : List Out) (after : State) (over : List Over) → Network s n r put after over → r ≡ off → ⊥
network_not_off s n r put after over x e = go (did s n r put after over x)
  where
    go : Did s n r put after over → ⊥
    go (by_frame bytes link m f got is d) = let no : frame bytes ≡ off = sym f ∙ e in cc
    go (by_time ms rest f all a) = let no : tick ms ≡ off = sym f ∙ e in cc

-- all of three parts, of which the middle one is another now
pub replaced : (xs ys zs : List Live) (l : Live) → AllByRecursion IsUnended (xs ++ l ∷ ys) → AllByRecursion IsUnended zs → AllByRecursion IsUnended (xs ++ zs ++ ys)
replaced [] ys zs l n m = joined zs ys m n.1
  where
    joined : (vs bs : List Live) → AllByRecursion IsUnended vs → AllByRecursion IsUnended bs → AllByRecursion IsUnended (vs ++ bs)
    joined [] bs a b = b
    joined (x ∷ vs) bs a b = (a.0, joined vs bs a.1 b)
replaced (x ∷ xs) ys zs l n m = (n.0, replaced xs ys zs l n.1 m)

with_unended : (s : State) (n : ℕ) (link : Client) (m : Brought) (put : List Out) (after : State) (over : List Over) → AllByRecursion IsUnended s.live → DidWith s n link m put after over → AllByRecursion IsUnended after.live
with_unended s n link m put after over u (was_passed none p a o) = subst (λ (z : State). AllByRecursion IsUnended z.live) (sym a) u
with_unended s n link m put after over u (was_taken before behind rest l lives takes first all a) =
    let each = subst (AllByRecursion IsUnended) lives u in
    subst (λ (z : State). AllByRecursion IsUnended z.live) (sym a) (replaced before behind rest l each (all_take_unended s.devices (input_of n s.now m) (l ∷ []) put rest over (other_unended before behind l each, tt) all))

pub network_unended : (s : State) (n : ℕ) (r : In) (put : List Out) (after : State) (over : List Over) → AllByRecursion IsUnended s.live → Network s n r put after over → AllByRecursion IsUnended after.live
network_unended s n r put after over u x = go (did s n r put after over x)
  where
    go : Did s n r put after over → AllByRecursion IsUnended after.live
    go (by_frame bytes link m f got is d) = with_unended s n link m put after over u d
    go (by_time ms rest f all a) = subst (λ (z : State). AllByRecursion IsUnended z.live) (sym a) (all_take_unended s.devices (time (s.now + ms)) s.live put rest over u all)
