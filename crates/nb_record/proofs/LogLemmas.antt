-- Puts into a log, one after another.
use Rattle.std.proofs.Common.{◌≡◌, ℕ, ◌+◌, ◌<◌, Bool, true, false, List, [], ◌++◌, length, take, refl, sym, ap, subst, ◌∙◌, append_assoc, arith}
use Rattle.std.proofs.lemmas.List.{append-nil, length-append}
use Rattle.std.proofs.Math.Seq.{take-append_seam}
use Rattle.nb_record.specs.Logged.{Logged, Puts}

-- putting nothing
pub Puts-nothing : (a : Logged) → Puts a a []
Puts-nothing a = record {
  room_stays = refl;
  whole = λ e. (e, sym (append-nil a.bytes));
  part = [];
  lost = [];
  fronts = refl;
  appended = sym (append-nil a.bytes);
  stays = λ _. refl;
  too_small = λ e f. absurd cc;
}

-- where the middle log was short, nothing was put after it
then_short : (a b c : Logged) (x y : List ℕ) → Puts a b x → Puts b c y → b.is_short ≡ true → Puts a c (x ++ y)
then_short a b c x y p q short =
    let same : c ≡ b = q.stays short in
    record {
      room_stays = ap (λ (l : Logged). l.room) same ∙ p.room_stays;
      whole = λ e. let h : c.is_short ≡ true = ap (λ (l : Logged). l.is_short) same ∙ short in absurd cc;
      part = p.part;
      lost = p.lost ++ y;
      fronts = ap (λ (w : List ℕ). w ++ y) p.fronts ∙ append_assoc p.part p.lost y;
      appended = ap (λ (l : Logged). l.bytes) same ∙ p.appended;
      stays = λ e. same ∙ p.stays e;
      too_small = λ e f. omega (arith, p.too_small e short, length-append x y);
    }

then_long : (a b c : Logged) (x y : List ℕ) → Puts a b x → Puts b c y → b.is_short ≡ false → Puts a c (x ++ y)
then_long a b c x y p q long =
    let first = p.whole long in
    record {
      room_stays = q.room_stays ∙ p.room_stays;
      whole = λ e. (first.0, (q.whole e).1 ∙ ap (λ (w : List ℕ). w ++ y) first.1 ∙ append_assoc a.bytes x y);
      part = x ++ q.part;
      lost = q.lost;
      fronts = ap (λ (w : List ℕ). x ++ w) q.fronts ∙ sym (append_assoc x q.part q.lost);
      appended = q.appended ∙ ap (λ (w : List ℕ). w ++ q.part) first.1 ∙ append_assoc a.bytes x q.part;
      stays = λ e. let h : a.is_short ≡ false = first.0 in absurd cc;
      too_small = λ e f. omega (arith, q.too_small long f, p.room_stays, ap length first.1, length-append a.bytes x, length-append x y);
    }

by_short : (a b c : Logged) (x y : List ℕ) → Puts a b x → Puts b c y → (s : Bool) → b.is_short ≡ s → Puts a c (x ++ y)
by_short a b c x y p q true e = then_short a b c x y p q e
by_short a b c x y p q false e = then_long a b c x y p q e

-- one put and then another are one put of both
pub Puts-then : (a b c : Logged) (x y : List ℕ) → Puts a b x → Puts b c y → Puts a c (x ++ y)
Puts-then a b c x y p q = by_short a b c x y p q b.is_short refl

-- bytes that were appended
pub Puts-all : (a b : Logged) (x : List ℕ) → a.is_short ≡ false → b ≡ record { bytes = a.bytes ++ x; room = a.room; is_short = false } → Puts a b x
Puts-all a b x long e = record {
  room_stays = ap (λ (l : Logged). l.room) e;
  whole = λ _. (long, ap (λ (l : Logged). l.bytes) e);
  part = x;
  lost = [];
  fronts = sym (append-nil x);
  appended = ap (λ (l : Logged). l.bytes) e;
  stays = λ f. absurd cc;
  too_small = λ f g. let h : b.is_short ≡ false = ap (λ (l : Logged). l.is_short) e in absurd cc;
}

-- bytes for which there was no memory
pub Puts-none : (a b : Logged) (x : List ℕ) → a.is_short ≡ false → b ≡ record { bytes = a.bytes; room = a.room; is_short = true } → a.room < length a.bytes + length x → Puts a b x
Puts-none a b x long e small = record {
  room_stays = ap (λ (l : Logged). l.room) e;
  whole = λ f. let h : b.is_short ≡ true = ap (λ (l : Logged). l.is_short) e in absurd cc;
  part = [];
  lost = x;
  fronts = refl;
  appended = ap (λ (l : Logged). l.bytes) e ∙ sym (append-nil a.bytes);
  stays = λ f. absurd cc;
  too_small = λ f g. small;
}

-- bytes that were written after those gathered
pub Puts-written : (a : Logged) (len len' room : ℕ) (short : Bool) (items items' x : List ℕ) → record { bytes = take len items; room = room; is_short = short } ≡ a → short ≡ false → take len' items' ≡ take len items ++ x → Puts a (record { bytes = take len' items'; room = room; is_short = short }) x
Puts-written a len len' room short items items' x same long held =
    let log : List ℕ → Bool → Logged = λ b s. record { bytes = b; room = room; is_short = s } in
    subst (λ (l : Logged). Puts l (log (take len' items') short) x) same
    (Puts-all (log (take len items) short) (log (take len' items') short) x long
    (ap (λ (b : List ℕ). log b short) held ∙ ap (λ (s : Bool). log (take len items ++ x) s) long))

-- a short log stays as it is
pub Puts-short : (a b : Logged) (x : List ℕ) → a.is_short ≡ true → b ≡ a → Puts a b x
Puts-short a b x short e = record {
  room_stays = ap (λ (l : Logged). l.room) e;
  whole = λ f. let h : b.is_short ≡ true = ap (λ (l : Logged). l.is_short) e ∙ short in absurd cc;
  part = [];
  lost = x;
  fronts = refl;
  appended = ap (λ (l : Logged). l.bytes) e ∙ sym (append-nil a.bytes);
  stays = λ f. e;
  too_small = λ f g. absurd cc;
}

-- the same bytes, told otherwise
pub Puts-same : (a b : Logged) (x y : List ℕ) → x ≡ y → Puts a b x → Puts a b y
Puts-same a b x y e p = subst (λ (w : List ℕ). Puts a b w) e p

-- three puts
pub Puts-three : (a b c d : Logged) (x y z : List ℕ) → Puts a b x → Puts b c y → Puts c d z → Puts a d ((x ++ y) ++ z)
Puts-three a b c d x y z p q r = Puts-then a c d (x ++ y) z (Puts-then a b c x y p q) r

-- a log is as it was at a place, where what was put after it is gone
pub went_back : (at from : Logged) (added : List ℕ) (len : ℕ) (short : Bool) → len ≡ length at.bytes → short ≡ at.is_short → Puts at from added → record { bytes = take len from.bytes; room = from.room; is_short = short } ≡ at
went_back at from added len short e f p =
    let bytes : take len from.bytes ≡ at.bytes = ap (λ (n : ℕ). take n from.bytes) e ∙ ap (λ (w : List ℕ). take (length at.bytes) w) p.appended ∙ take-append_seam at.bytes p.part in
    ap (λ (w : List ℕ). record { bytes = w; room = from.room; is_short = short }) bytes
    ∙ ap (λ (n : ℕ). record { bytes = at.bytes; room = n; is_short = short }) p.room_stays
    ∙ ap (λ (b : Bool). record { bytes = at.bytes; room = at.room; is_short = b }) f
