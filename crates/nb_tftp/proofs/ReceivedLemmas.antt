-- Blocks, agreement and what is waited for, when one datagram more comes.
use Rattle.std.proofs.Common.{◌≡◌, ℕ, suc, ◌≤◌, List, [], ◌∷◌, ◌++◌, length, Option, Some, None, Bool, true, false, cond, ◌&&◌, ◌||◌, refl, ap, ◌∙◌, sym, subst, arith, leb, eqb, add-one, eq-eqb}
use Rattle.std.specs.List.{find}
use Rattle.std.specs.Option.{option_map, option_map_or, option_or, option_and_then, option_to_list}
use Rattle.std.proofs.lemmas.Bool.{false≢true, eqb-true}
use Rattle.std.proofs.lemmas.List.{length-append}
use Rattle.std.proofs.lemmas.List.Folds.{find-append}
use Rattle.std.proofs.lemmas.Option.{none-some}
use Rattle.nb_tftpmsg.specs.Packets.{Message, rrq, block, ack, error, oack}
use Rattle.nb_tftp.specs.Received.{Received, packet_in, has_block_number, stated_size, is_oack, is_block, is_grant, size_in, block_bytes, is_agreement, agreement, port_with, size_with}
use Rattle.nb_tftp.specs.Blocks.{FoundBlock, first_passing, is_block_from, behind_block, blocks_to, blocks_with, count_with, next_block}
use Rattle.nb_tftp.specs.Decisions.{from_server}
use Rattle.nb_tftp.specs.Sentences.{grants_first}
use Rattle.nb_tftp.specs.Stands.{AwaitsBlock, can_agree}
use Rattle.nb_tftp.proofs.BlockLemmas.{either_way, first_passing-none, behind_block-more, blocks_to-more, blocks_to-past, no_block, next_found, found_at}

-- no later block is there, whatever may be agreed
abbrev pub Waits : Bool → List Received → Type 0
Waits opts got = (size port : ℕ) → can_agree (port_with opts got) (size_with opts got) size port ≡ true → AwaitsBlock opts got size port

abbrev pub is_next : Bool → List Received → Received → Bool
is_next opts got m = is_block (suc (count_with opts got)) m && from_server (port_with opts got) m.port

abbrev pub fits : ℕ → Received → Bool
fits size m = leb (length (block_bytes m)) size

pub by_option : {A P : Type 0} (o : Option A) → (o ≡ None → P) → ((x : A) → o ≡ Some x → P) → P
by_option None none some = none refl
by_option (Some x) none some = some x refl

pub and_left : (a b : Bool) → (a && b) ≡ true → a ≡ true
and_left true b is = refl
and_left false b is = absurd (false≢true is)

pub and_right : (a b : Bool) → (a && b) ≡ true → b ≡ true
and_right true b is = is
and_right false b is = absurd (false≢true is)

and_false : (a b : Bool) → b ≡ false → (a && b) ≡ false
and_false true b is = is
and_false false b is = refl

false_and : (a b c : Bool) → (a && b) ≡ false → b ≡ true → (a && c) ≡ false
false_and true true c is on = absurd (false≢true (sym is))
false_and true false c is on = absurd (false≢true on)
false_and false b c is on = refl

pub no_blocks : (opts : Bool) (got : List Received) → port_with opts got ≡ None → blocks_with opts got ≡ []
no_blocks opts got none = rw none refl

pub blocks_at : (opts : Bool) (got : List Received) (port : ℕ) → port_with opts got ≡ Some port → blocks_with opts got ≡ blocks_to (size_with opts got) port got (length got)
blocks_at opts got port some = rw some refl

find_none : (opts : Bool) (got : List Received) → port_with opts got ≡ None → agreement opts got ≡ None
find_none opts got none = by_option (agreement opts got) (λ is. is) (λ m is. absurd (none-some m.port (sym none ∙ ap (λ o. option_map (λ (x : Received). x.port) o) is)))

abbrev port_in : Option Received → Option ℕ
port_in o = option_map (λ (x : Received). x.port) o

abbrev size_at : Bool → Option Received → ℕ
size_at opts o = cond opts (option_map_or size_in o 512) 512

agreement_stays : (opts : Bool) (got : List Received) (m f : Received) → agreement opts got ≡ Some f → agreement opts (got ++ m ∷ []) ≡ Some f
agreement_stays opts got m f some = find-append (is_agreement opts) got (m ∷ []) ∙ ap (λ o. option_or o (find (is_agreement opts) (m ∷ []))) some

agreement_comes : (opts : Bool) (got : List Received) (m : Received) → agreement opts got ≡ None → agreement opts (got ++ m ∷ []) ≡ cond (is_agreement opts m) (Some m) None
agreement_comes opts got m none =
    find-append (is_agreement opts) got (m ∷ []) ∙ ap (λ o. option_or o (find (is_agreement opts) (m ∷ []))) none
    ∙ either_way (is_agreement opts m) (λ on. rw on refl) (λ off. rw off refl)

pub port_stays : (opts : Bool) (got : List Received) (m : Received) (port : ℕ) → port_with opts got ≡ Some port → port_with opts (got ++ m ∷ []) ≡ Some port
port_stays opts got m port is = by_option (agreement opts got)
    (λ none. absurd (none-some port (ap port_in (sym none) ∙ is)))
    (λ f some. ap port_in (agreement_stays opts got m f some ∙ sym some) ∙ is)

pub size_stays : (opts : Bool) (got : List Received) (m : Received) (port : ℕ) → port_with opts got ≡ Some port → size_with opts (got ++ m ∷ []) ≡ size_with opts got
size_stays opts got m port is = by_option (agreement opts got)
    (λ none. absurd (none-some port (ap port_in (sym none) ∙ is)))
    (λ f some. ap (size_at opts) (agreement_stays opts got m f some ∙ sym some))

pub port_comes : (opts : Bool) (got : List Received) (m : Received) → port_with opts got ≡ None → port_with opts (got ++ m ∷ []) ≡ cond (is_agreement opts m) (Some m.port) None
port_comes opts got m none =
    ap port_in (agreement_comes opts got m (find_none opts got none))
    ∙ either_way (is_agreement opts m) (λ on. rw on refl) (λ off. rw off refl)

pub no_size : (opts : Bool) (got : List Received) → port_with opts got ≡ None → size_with opts got ≡ 512
no_size true got none = ap (size_at true) (find_none true got none)
no_size false got none = refl

block_states : (n : ℕ) (p : Option Message) → option_map_or (has_block_number n) p false ≡ true → option_map_or stated_size p 512 ≡ 512
block_states n None is = refl
block_states n (Some (block k bytes)) is = refl
block_states n (Some (rrq path asked)) is = refl
block_states n (Some (ack k)) is = refl
block_states n (Some (error code text)) is = refl
block_states n (Some (oack blksize tsize)) is = absurd (false≢true is)

grant_no_block : (n : ℕ) (p : Option Message) → option_map_or is_oack p false ≡ true → option_map_or (has_block_number n) p false ≡ false
grant_no_block n None is = refl
grant_no_block n (Some (block k bytes)) is = absurd (false≢true is)
grant_no_block n (Some (rrq path asked)) is = refl
grant_no_block n (Some (ack k)) is = refl
grant_no_block n (Some (error code text)) is = refl
grant_no_block n (Some (oack blksize tsize)) is = refl

size_first : (opts : Bool) (m : Received) → (opts && is_grant m) ≡ false → size_at opts (cond (is_agreement opts m) (Some m) None) ≡ 512
size_first false m ungranted = refl
size_first true m ungranted = either_way (is_block 1 m)
    (λ on. rw (ungranted, on) (block_states 1 (packet_in m) on))
    (λ off. rw (ungranted, off) refl)

-- the size stays as it is, unless an OACK is the first agreement
pub size_or_grant : {P : Type 0} (opts : Bool) (got : List Received) (m : Received) → (size_with opts (got ++ m ∷ []) ≡ size_with opts got → P) → (port_with opts got ≡ None → (opts && is_grant m) ≡ true → P) → P
size_or_grant opts got m same granted = by_option (port_with opts got)
    (λ none. either_way (opts && is_grant m) (λ on. granted none on)
    (λ off. same (ap (size_at opts) (agreement_comes opts got m (find_none opts got none)) ∙ size_first opts m off ∙ sym (no_size opts got none))))
    (λ port some. same (size_stays opts got m port some))

can_server : (fixed : Option ℕ) (agreed size port : ℕ) → can_agree fixed agreed size port ≡ true → from_server fixed port ≡ true
can_server None agreed size port is = refl
can_server (Some p) agreed size port is = and_left (eqb p port) (eqb agreed size) is

server_can : (fixed : Option ℕ) (agreed port : ℕ) → from_server fixed port ≡ true → can_agree fixed agreed agreed port ≡ true
server_can None agreed port is = refl
server_can (Some p) agreed port is = ap (λ b. b && eqb agreed agreed) is ∙ eq-eqb agreed agreed refl

can_any : (fixed : Option ℕ) (agreed size port : ℕ) → fixed ≡ None → can_agree fixed agreed size port ≡ true
can_any fixed agreed size port none = rw none refl

not_from_by : (n : ℕ) (fixed : Option ℕ) (m : Received) (port : ℕ) → from_server fixed port ≡ true → (is_block n m && from_server fixed m.port) ≡ false → is_block_from port n m ≡ false
not_from_by n None m port server other = false_and (is_block n m) true (eqb port m.port) other refl
not_from_by n (Some p) m port server other = subst (λ (q : ℕ). (is_block n m && eqb q m.port) ≡ false) (eqb-true p port server) other

not_fitting : (a b c f : Bool) → ((a && b) && f) ≡ false → b ≡ true → ((a && c) && f) ≡ false
not_fitting true true c f is on = and_false c f is
not_fitting true false c f is on = absurd (false≢true on)
not_fitting false b c f is on = refl

not_fitting_by : (n : ℕ) (fixed : Option ℕ) (m : Received) (port : ℕ) (f : Bool) → from_server fixed port ≡ true → ((is_block n m && from_server fixed m.port) && f) ≡ false → (is_block_from port n m && f) ≡ false
not_fitting_by n None m port f server other = not_fitting (is_block n m) true (eqb port m.port) f other refl
not_fitting_by n (Some p) m port f server other = subst (λ (q : ℕ). ((is_block n m && eqb q m.port) && f) ≡ false) (eqb-true p port server) other

first_not : (n : ℕ) (fixed : Option ℕ) (m : Received) → fixed ≡ None → n ≡ 0 → (is_block (suc n) m && from_server fixed m.port) ≡ false → is_block 1 m ≡ false
first_not n fixed m none at_start other = either_way (is_block 1 m)
    (λ on.
    let now : (is_block 1 m && true) ≡ false = subst (λ (k : ℕ). (is_block (suc k) m && true) ≡ false) at_start (subst (λ (o : Option ℕ). (is_block (suc n) m && from_server o m.port) ≡ false) none other) in
    absurd (false≢true (sym now ∙ ap (λ b. b && true) on)))
    (λ off. off)

first_is : (n : ℕ) (m : Received) → n ≡ 0 → is_block (suc n) m ≡ true → is_block 1 m ≡ true
first_is n m at_start is = subst (λ (k : ℕ). is_block (suc k) m ≡ true) at_start is

pub server_is : (fixed : Option ℕ) (p q : ℕ) → fixed ≡ Some p → from_server fixed q ≡ true → p ≡ q
server_is fixed p q some server = eqb-true p q (subst (λ (o : Option ℕ). from_server o q ≡ true) some server)

any_server : (fixed : Option ℕ) (q : ℕ) → fixed ≡ None → from_server fixed q ≡ true
any_server fixed q none = subst (λ (o : Option ℕ). from_server o q ≡ true) (sym none) refl

its_server : (fixed : Option ℕ) (q : ℕ) → fixed ≡ Some q → from_server fixed q ≡ true
its_server fixed q some = subst (λ (o : Option ℕ). from_server o q ≡ true) (sym some) (eq-eqb q q refl)

pub none_counted : (opts : Bool) (got : List Received) → port_with opts got ≡ None → count_with opts got ≡ 0
none_counted opts got none = ap length (no_blocks opts got none)

waiting_by : (opts : Bool) (got : List Received) (size port n : ℕ) → count_with opts got ≡ n → ((ms : List Received) × (behind_block size port got n ≡ Some ms) × (first_passing (is_block_from port (suc n)) ms ≡ None)) → n ≤ length got → blocks_to size port got n ≡ blocks_with opts got → AwaitsBlock opts got size port
waiting_by opts got size port n same behind few all = record {
  behind = subst (λ (k : ℕ). (ms : List Received) × (behind_block size port got k ≡ Some ms) × (first_passing (is_block_from port (suc k)) ms ≡ None)) (sym same) behind;
  few = subst (λ (k : ℕ). k ≤ length got) (sym same) few;
  all = subst (λ (k : ℕ). blocks_to size port got k ≡ blocks_with opts got) (sym same) all;
}

one_longer : (got : List Received) (m : Received) → length (got ++ m ∷ []) ≡ suc (length got)
one_longer got m = length-append got (m ∷ []) ∙ add-one (length got)

or_off : (a b : Bool) → a ≡ false → b ≡ false → (a || b) ≡ false
or_off false false x y = refl
or_off true b x y = absurd (false≢true (sym x))
or_off false true x y = absurd (false≢true (sym y))

none_grants : (opts : Bool) (fixed : Option ℕ) (m : Received) → fixed ≡ None → grants_first opts fixed m ≡ false → (opts && is_grant m) ≡ false
none_grants opts fixed m none ungranted = rw none at ungranted

pub kept_agreement : (opts : Bool) (got : List Received) (m : Received) → is_next opts got m ≡ false → grants_first opts (port_with opts got) m ≡ false → port_with opts (got ++ m ∷ []) ≡ port_with opts got
kept_agreement opts got m other ungranted = by_option (port_with opts got)
    (λ none.
    let first : is_block 1 m ≡ false = first_not (count_with opts got) (port_with opts got) m none (none_counted opts got none) other in
    port_comes opts got m none ∙ ap (λ b. cond b (Some m.port) None) (or_off (opts && is_grant m) (is_block 1 m) (none_grants opts (port_with opts got) m none ungranted) first) ∙ sym none)
    (λ p some. port_stays opts got m p some ∙ sym some)

pub kept_size : (opts : Bool) (got : List Received) (m : Received) → grants_first opts (port_with opts got) m ≡ false → size_with opts (got ++ m ∷ []) ≡ size_with opts got
kept_size opts got m ungranted = size_or_grant opts got m (λ same. same)
    (λ none on. absurd (false≢true (sym (none_grants opts (port_with opts got) m none ungranted) ∙ on)))

-- a port that is fixed afterwards could be the server's before
server_before : (opts : Bool) (got : List Received) (m : Received) (port : ℕ) → port_with opts (got ++ m ∷ []) ≡ Some port → from_server (port_with opts got) port ≡ true
server_before opts got m port now = by_option (port_with opts got)
    (λ none. any_server (port_with opts got) port none)
    (λ p some. its_server (port_with opts got) port (some ∙ sym (port_stays opts got m p some) ∙ now))

-- what is agreed afterwards could be agreed before
can_before : (opts : Bool) (got : List Received) (m : Received) (port : ℕ) → port_with opts (got ++ m ∷ []) ≡ Some port → can_agree (port_with opts got) (size_with opts got) (size_with opts (got ++ m ∷ [])) port ≡ true
can_before opts got m port now = size_or_grant opts got m
    (λ same. subst (λ (s : ℕ). can_agree (port_with opts got) (size_with opts got) s port ≡ true) (sym same) (server_can (port_with opts got) (size_with opts got) port (server_before opts got m port now)))
    (λ none on. can_any (port_with opts got) (size_with opts got) (size_with opts (got ++ m ∷ [])) port none)

-- it is no next block for the size agreed afterwards
no_next_now : (opts : Bool) (got : List Received) (m : Received) (port : ℕ) → from_server (port_with opts got) port ≡ true → (is_next opts got m && fits (size_with opts got) m) ≡ false → (is_block_from port (suc (count_with opts got)) m && fits (size_with opts (got ++ m ∷ [])) m) ≡ false
no_next_now opts got m port server other = size_or_grant opts got m
    (λ same. subst (λ (s : ℕ). (is_block_from port (suc (count_with opts got)) m && fits s m) ≡ false) (sym same) (not_fitting_by (suc (count_with opts got)) (port_with opts got) m port (fits (size_with opts got) m) server other))
    (λ none on. ap (λ b. (b && eqb port m.port) && fits (size_with opts (got ++ m ∷ [])) m) (grant_no_block (suc (count_with opts got)) (packet_in m) (and_right opts (is_grant m) on)))

pub kept_blocks : (opts : Bool) (got : List Received) (m : Received) → Waits opts got → (is_next opts got m && fits (size_with opts got) m) ≡ false → blocks_with opts (got ++ m ∷ []) ≡ blocks_with opts got
kept_blocks opts got m waits other = by_option (port_with opts (got ++ m ∷ []))
    (λ none. no_blocks opts (got ++ m ∷ []) none ∙ sym (by_option (port_with opts got)
    (λ before. no_blocks opts got before)
    (λ p some. absurd (none-some p (sym none ∙ port_stays opts got m p some)))))
    (λ port some.
    let size = size_with opts (got ++ m ∷ []) in
    let server = server_before opts got m port some in
    let w = waits size port (can_before opts got m port some) in
    let few : count_with opts got ≤ length got = w.few in
    let longer : length (got ++ m ∷ []) ≡ suc (length got) = one_longer got m in
    blocks_at opts (got ++ m ∷ []) port some
    ∙ blocks_to-past size port (got ++ m ∷ []) (count_with opts got) (length (got ++ m ∷ []))
    (no_block size port got w.behind.0 (count_with opts got) m w.behind.1 w.behind.2 (no_next_now opts got m port server other))
    (omega arith)
    ∙ blocks_to-more size port got (m ∷ []) (count_with opts got) w.behind.0 w.behind.1
    ∙ w.all)

-- what can be agreed afterwards, could before
can_kept : (opts : Bool) (got : List Received) (m : Received) (size port : ℕ) → port_with opts (got ++ m ∷ []) ≡ port_with opts got → size_with opts (got ++ m ∷ []) ≡ size_with opts got
    → can_agree (port_with opts (got ++ m ∷ [])) (size_with opts (got ++ m ∷ [])) size port ≡ true → can_agree (port_with opts got) (size_with opts got) size port ≡ true
can_kept opts got m size port one two is =
    subst (λ (s : ℕ). can_agree (port_with opts got) s size port ≡ true) two
    (subst (λ (o : Option ℕ). can_agree o (size_with opts (got ++ m ∷ [])) size port ≡ true) one is)

-- where a datagram is no next block, what is waited for at a size and a port stays
still_waits : (opts : Bool) (got : List Received) (m : Received) (size port : ℕ) → Waits opts got → AwaitsBlock opts got size port → from_server (port_with opts got) port ≡ true → is_next opts got m ≡ false → AwaitsBlock opts (got ++ m ∷ []) size port
still_waits opts got m size port waits w before other =
    let same : blocks_with opts (got ++ m ∷ []) ≡ blocks_with opts got = kept_blocks opts got m waits (ap (λ b. b && fits (size_with opts got) m) other) in
    let few : count_with opts got ≤ length got = w.few in
    let longer : length (got ++ m ∷ []) ≡ suc (length got) = one_longer got m in
    let ungranted = not_from_by (suc (count_with opts got)) (port_with opts got) m port before other in
    waiting_by opts (got ++ m ∷ []) size port (count_with opts got) (ap length same) (
      w.behind.0 ++ m ∷ [],
      behind_block-more size port got (m ∷ []) (count_with opts got) w.behind.0 w.behind.1,
      first_passing-none (is_block_from port (suc (count_with opts got))) w.behind.0 (m ∷ []) w.behind.2 ∙ ap (λ b. cond b (Some (record { one = m; behind = [] })) None) ungranted,
    )
    (omega arith)
    (blocks_to-more size port got (m ∷ []) (count_with opts got) w.behind.0 w.behind.1 ∙ w.all ∙ sym same)

pub kept_waits : (opts : Bool) (got : List Received) (m : Received) → Waits opts got → is_next opts got m ≡ false → grants_first opts (port_with opts got) m ≡ false → Waits opts (got ++ m ∷ [])
kept_waits opts got m waits other ungranted size port can =
    let before = can_kept opts got m size port (kept_agreement opts got m other ungranted) (kept_size opts got m ungranted) can in
    still_waits opts got m size port waits (waits size port before) (can_server (port_with opts got) (size_with opts got) size port before) other

-- an OACK is the first agreement
grant_agrees : (opts : Bool) (m : Received) → (opts && is_grant m) ≡ true → is_agreement opts m ≡ true
grant_agrees opts m on = rw on refl

pub granted_port : (opts : Bool) (got : List Received) (m : Received) → port_with opts got ≡ None → (opts && is_grant m) ≡ true → port_with opts (got ++ m ∷ []) ≡ Some m.port
granted_port opts got m none on = port_comes opts got m none ∙ ap (λ b. cond b (Some m.port) None) (grant_agrees opts m on)

pub granted_size : (opts : Bool) (got : List Received) (m : Received) → port_with opts got ≡ None → (opts && is_grant m) ≡ true → size_with opts (got ++ m ∷ []) ≡ size_in m
granted_size true got m none on = ap (size_at true) (agreement_comes true got m (find_none true got none) ∙ ap (λ b. cond b (Some m) None) (grant_agrees true m on))
granted_size false got m none on = absurd (false≢true on)

pub grant_next : (opts : Bool) (got : List Received) (m : Received) → (opts && is_grant m) ≡ true → is_next opts got m ≡ false
grant_next opts got m on = ap (λ b. b && from_server (port_with opts got) m.port) (grant_no_block (suc (count_with opts got)) (packet_in m) (and_right opts (is_grant m) on))

pub granted_waits : (opts : Bool) (got : List Received) (m : Received) → Waits opts got → port_with opts got ≡ None → (opts && is_grant m) ≡ true → Waits opts (got ++ m ∷ [])
granted_waits opts got m waits none on size port can =
    still_waits opts got m size port waits (waits size port (can_any (port_with opts got) (size_with opts got) size port none))
    (any_server (port_with opts got) port none) (grant_next opts got m on)

next_no_grant : (opts : Bool) (got : List Received) (m : Received) → is_next opts got m ≡ true → (opts && is_grant m) ≡ false
next_no_grant opts got m is = either_way (opts && is_grant m) (λ on. absurd (false≢true (sym (grant_next opts got m on) ∙ is))) (λ off. off)

pub more_size : (opts : Bool) (got : List Received) (m : Received) → is_next opts got m ≡ true → size_with opts (got ++ m ∷ []) ≡ size_with opts got
more_size opts got m is = size_or_grant opts got m (λ same. same) (λ none on. absurd (false≢true (sym (next_no_grant opts got m is) ∙ on)))

pub more_port : (opts : Bool) (got : List Received) (m : Received) → is_next opts got m ≡ true → port_with opts (got ++ m ∷ []) ≡ Some m.port
more_port opts got m is = by_option (port_with opts got)
    (λ none.
    let first : is_block 1 m ≡ true = first_is (count_with opts got) m (none_counted opts got none) (and_left (is_block (suc (count_with opts got)) m) (from_server (port_with opts got) m.port) is) in
    port_comes opts got m none ∙ ap (λ b. cond ((opts && is_grant m) || b) (Some m.port) None) first ∙ ap (λ b. cond (b || true) (Some m.port) None) (next_no_grant opts got m is))
    (λ p some. port_stays opts got m p some ∙ ap (λ q. Some q) (server_is (port_with opts got) p m.port some (and_right (is_block (suc (count_with opts got)) m) (from_server (port_with opts got) m.port) is)))

-- what is waited for, from where the next block came
waits_it : (opts : Bool) (got : List Received) (m : Received) → Waits opts got → is_next opts got m ≡ true → AwaitsBlock opts got (size_with opts got) m.port
waits_it opts got m waits is =
    waits (size_with opts got) m.port (server_can (port_with opts got) (size_with opts got) m.port (and_right (is_block (suc (count_with opts got)) m) (from_server (port_with opts got) m.port) is))

-- what is found by the next block
found_now : (opts : Bool) (got : List Received) (m : Received) → Waits opts got → is_next opts got m ≡ true → fits (size_with opts got) m ≡ true → found_at (size_with opts got) m.port (got ++ m ∷ []) (count_with opts got) ≡ Some (record { one = m; behind = [] })
found_now opts got m waits is short =
    let number = and_left (is_block (suc (count_with opts got)) m) (from_server (port_with opts got) m.port) is in
    let w = waits_it opts got m waits is in
    next_found (size_with opts got) m.port got w.behind.0 (count_with opts got) m w.behind.1 w.behind.2
    (ap (λ b. (b && eqb m.port m.port) && fits (size_with opts got) m) number ∙ ap (λ b. b && fits (size_with opts got) m) (eq-eqb m.port m.port refl) ∙ short)

behind_now : (opts : Bool) (got : List Received) (m : Received) → Waits opts got → is_next opts got m ≡ true → fits (size_with opts got) m ≡ true → behind_block (size_with opts got) m.port (got ++ m ∷ []) (suc (count_with opts got)) ≡ Some []
behind_now opts got m waits is short = ap (λ f. option_map (λ (x : FoundBlock). x.behind) f) (found_now opts got m waits is short)

blocks_now : (opts : Bool) (got : List Received) (m : Received) → Waits opts got → is_next opts got m ≡ true → fits (size_with opts got) m ≡ true → blocks_to (size_with opts got) m.port (got ++ m ∷ []) (suc (count_with opts got)) ≡ blocks_with opts got ++ block_bytes m ∷ []
blocks_now opts got m waits is short =
    let w = waits_it opts got m waits is in
    ap (λ f. blocks_to (size_with opts got) m.port (got ++ m ∷ []) (count_with opts got) ++ option_to_list (option_map (λ (x : FoundBlock). block_bytes x.one) f)) (found_now opts got m waits is short)
    ∙ ap (λ bs. bs ++ block_bytes m ∷ []) (blocks_to-more (size_with opts got) m.port got (m ∷ []) (count_with opts got) w.behind.0 w.behind.1 ∙ w.all)

pub more_blocks : (opts : Bool) (got : List Received) (m : Received) → Waits opts got → is_next opts got m ≡ true → fits (size_with opts got) m ≡ true → blocks_with opts (got ++ m ∷ []) ≡ blocks_with opts got ++ block_bytes m ∷ []
more_blocks opts got m waits is short =
    let w = waits_it opts got m waits is in
    let few : count_with opts got ≤ length got = w.few in
    let longer : length (got ++ m ∷ []) ≡ suc (length got) = one_longer got m in
    blocks_at opts (got ++ m ∷ []) m.port (more_port opts got m is)
    ∙ ap (λ s. blocks_to s m.port (got ++ m ∷ []) (length (got ++ m ∷ []))) (more_size opts got m is)
    ∙ blocks_to-past (size_with opts got) m.port (got ++ m ∷ []) (suc (count_with opts got)) (length (got ++ m ∷ []))
    (ap (λ b. option_and_then (next_block (size_with opts got) m.port (suc (suc (count_with opts got)))) b) (behind_now opts got m waits is short))
    (omega arith)
    ∙ blocks_now opts got m waits is short

pub more_count : (opts : Bool) (got : List Received) (m : Received) → Waits opts got → is_next opts got m ≡ true → fits (size_with opts got) m ≡ true → count_with opts (got ++ m ∷ []) ≡ suc (count_with opts got)
more_count opts got m waits is short = ap length (more_blocks opts got m waits is short) ∙ length-append (blocks_with opts got) (block_bytes m ∷ []) ∙ add-one (count_with opts got)

-- what can be agreed where something is, is that
agreed_is : (fixed : Option ℕ) (p agreed size port : ℕ) → fixed ≡ Some p → can_agree fixed agreed size port ≡ true → agreed ≡ size
agreed_is fixed p agreed size port some can = eqb-true agreed size (and_right (eqb p port) (eqb agreed size) (subst (λ (o : Option ℕ). can_agree o agreed size port ≡ true) some can))

pub more_waits : (opts : Bool) (got : List Received) (m : Received) → Waits opts got → is_next opts got m ≡ true → fits (size_with opts got) m ≡ true → Waits opts (got ++ m ∷ [])
more_waits opts got m waits is short size port can =
    let w = waits_it opts got m waits is in
    let few : count_with opts got ≤ length got = w.few in
    let longer : length (got ++ m ∷ []) ≡ suc (length got) = one_longer got m in
    let fixed = more_port opts got m is in
    let server = can_server (port_with opts (got ++ m ∷ [])) (size_with opts (got ++ m ∷ [])) size port can in
    let same : m.port ≡ port = server_is (port_with opts (got ++ m ∷ [])) m.port port fixed server in
    let sized : size_with opts got ≡ size = sym (more_size opts got m is) ∙ agreed_is (port_with opts (got ++ m ∷ [])) m.port (size_with opts (got ++ m ∷ [])) size port fixed can in
    subst (λ (q : ℕ). AwaitsBlock opts (got ++ m ∷ []) size q) same
    (subst (λ (s : ℕ). AwaitsBlock opts (got ++ m ∷ []) s m.port) sized
    (waiting_by opts (got ++ m ∷ []) (size_with opts got) m.port (suc (count_with opts got)) (more_count opts got m waits is short)
    ([], behind_now opts got m waits is short, refl)
    (omega arith)
    (blocks_now opts got m waits is short ∙ sym (more_blocks opts got m waits is short))))
