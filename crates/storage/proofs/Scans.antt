-- A log that is read from the front: one piece, several, and a log that grows at its end.
use Rattle.std.specs.Prelude.{◌≡◌, ℕ, zero, suc, ◌+◌, ◌<◌, ◌≤◌, true, false, List, [], ◌++◌, length, take, drop, replicate, Some, None, Option, slice_index, slice_set, refl}
use Rattle.std.proofs.Common.{sym, ap, ◌∙◌, inl, inr, arith, length-append, length-drop}
use Rattle.std.proofs.lemmas.Grind.{common_steps}
use Rattle.std.proofs.lemmas.List.{append-nil, drop-append-le, take-append-le, get_or_append_left, nil_from_length, drop_at, take_at}
use Rattle.std.proofs.lemmas.Bool.{cases_Bool}
use Rattle.std.proofs.lemmas.Bool.Decides.{nat_tests}
use Rattle.storage.specs.Logs.{encode, size, sound, scan, read_log}

-- what is left behind the piece at the front, and what is saved with it
abbrev pub rest : List ℕ → List ℕ
rest log = drop (4 + size log) log

abbrev pub with_front : List ℕ → List (List ℕ) → List (List ℕ)
with_front log saved = slice_set saved (slice_index log 0) (take (size log) (drop 4 log))

-- a whole log, with as many steps as it has bytes
abbrev pub run : List ℕ → List (List ℕ) → Option (List (List ℕ))
run log saved = scan (length log) log saved

-- a sound log has all the bytes of its first piece
sound_long : (log : List ℕ) → sound log ≡ true → 4 + size log ≤ length log
sound_long log h = grind (arith, nat_tests)

-- what follows a sound front does not change it
sound-append : (log more : List ℕ) → sound log ≡ true → sound (log ++ more) ≡ true
sound-append log more h = grind (arith, nat_tests, length-append, get_or_append_left)

size-append : (log more : List ℕ) → sound log ≡ true → size (log ++ more) ≡ size log
size-append log more h = grind (arith, nat_tests, get_or_append_left)

rest-append : (log more : List ℕ) → sound log ≡ true → rest (log ++ more) ≡ rest log ++ more
rest-append log more h =
    ap (λ n. drop (4 + n) (log ++ more)) (size-append log more h) ∙ drop-append-le (4 + size log) log more (sound_long log h)

with_append : (log more : List ℕ) (saved : List (List ℕ)) → sound log ≡ true → with_front (log ++ more) saved ≡ with_front log saved
with_append log more saved h = let l = sound_long log h in grind (arith, common_steps, size-append, drop-append-le, take-append-le, get_or_append_left, length-drop)

-- no byte is left
scan_end : (f : ℕ) (log : List ℕ) (saved : List (List ℕ)) → length log ≡ 0 → scan f log saved ≡ Some saved
unfolding scan
scan_end zero log saved e = grind (arith, nat_tests)
scan_end (suc f) log saved e = grind (arith, nat_tests)

-- the front is sound
scan_step : (f : ℕ) (log : List ℕ) (saved : List (List ℕ)) → sound log ≡ true → scan (suc f) log saved ≡ scan f (rest log) (with_front log saved)
unfolding scan
scan_step f log saved h = let l = sound_long log h in grind (arith, nat_tests)

-- the front is not
scan_stop : (f : ℕ) (log : List ℕ) (saved : List (List ℕ)) → 0 < length log → sound log ≡ false → scan f log saved ≡ None
unfolding scan
scan_stop zero log saved l h = grind (arith, nat_tests)
scan_stop (suc f) log saved l h = grind (arith, nat_tests)

-- more steps than bytes change nothing
scan_enough : (f g : ℕ) (log : List ℕ) (saved : List (List ℕ)) → length log ≤ f → length log ≤ g → scan f log saved ≡ scan g log saved
unfolding scan
scan_enough zero g log saved l k = scan_end zero log saved (omega arith) ∙ sym (scan_end g log saved (omega arith))
scan_enough (suc f) zero log saved l k = scan_end (suc f) log saved (omega arith) ∙ sym (scan_end zero log saved (omega arith))
scan_enough (suc f) (suc g) log saved l k =
    let d = length-drop (4 + size log) log in
    let further = scan_enough f g (rest log) (with_front log saved) (omega arith) (omega arith) in
    grind (arith, nat_tests, scan_end, further)

pub run_end : (log : List ℕ) (saved : List (List ℕ)) → length log ≡ 0 → run log saved ≡ Some saved
run_end log saved e = scan_end (length log) log saved e

run_step : (log : List ℕ) (saved : List (List ℕ)) → sound log ≡ true → run log saved ≡ run (rest log) (with_front log saved)
run_step log saved h =
    let w = sound_long log h in
    let d = length-drop (4 + size log) log in
    scan_enough (length log) (suc (length log)) log saved (omega arith) (omega arith)
    ∙ scan_step (length log) log saved h
    ∙ scan_enough (length log) (length (rest log)) (rest log) (with_front log saved) (omega arith) (omega arith)

pub run_stop : (log : List ℕ) (saved : List (List ℕ)) → 0 < length log → sound log ≡ false → run log saved ≡ None
run_stop log saved l h = scan_stop (length log) log saved l h

-- where no piece stands at its front, a log has no bytes
run_empty : (log : List ℕ) (saved found : List (List ℕ)) → sound log ≡ false → run log saved ≡ Some found → (length log ≡ 0) × (saved ≡ found)
run_empty log saved found b h = grind (arith, nat_tests, run_end, run_stop)

empty-append : (log more : List ℕ) (saved found : List (List ℕ)) → sound log ≡ false → run log saved ≡ Some found → run (log ++ more) saved ≡ run more found
empty-append log more saved found b h = let e = run_empty log saved found b h in ap (λ z. run (z ++ more) saved) (nil_from_length log e.0) ∙ ap (run more) e.1

-- a log, and what follows it
run-append : (f : ℕ) (log more : List ℕ) (saved found : List (List ℕ)) → length log ≤ f → run log saved ≡ Some found → run (log ++ more) saved ≡ run more found
run-append zero log more saved found l h = empty-append log more saved found (grind (arith, nat_tests)) h
run-append (suc f) log more saved found l h =
    elim (cases_Bool (sound log)) [
      | inl b ↦
          let d = length-drop (4 + size log) log in
          run_step (log ++ more) saved (sound-append log more b)
          ∙ ap (λ z. run z (with_front (log ++ more) saved)) (rest-append log more b)
          ∙ ap (run (rest log ++ more)) (with_append log more saved b)
          ∙ run-append f (rest log) more (with_front log saved) found (omega arith) (sym (run_step log saved b) ∙ h)
      | inr b ↦ empty-append log more saved found b h
    ]

-- a piece is sound, and its head gives its length
size-encode : (k : ℕ) (bs more : List ℕ) → size (encode k bs ++ more) ≡ length bs
size-encode k bs more = omega arith

sound-encode : (k : ℕ) (bs more : List ℕ) → k ≤ 6 → 1 ≤ length bs → length bs ≤ 3320 → sound (encode k bs ++ more) ≡ true
sound-encode k bs more known some fits = let s = size-encode k bs more in grind (arith, nat_tests, length-append)

-- a piece, and what follows it
pub run_piece : (k : ℕ) (bs more : List ℕ) (saved : List (List ℕ)) → k ≤ 6 → 1 ≤ length bs → length bs ≤ 3320 → run (encode k bs ++ more) saved ≡ run more (slice_set saved k bs)
run_piece k bs more saved known some fits =
    run_step (encode k bs ++ more) saved (sound-encode k bs more known some fits)
    ∙ ap (λ n. run (drop (4 + n) (encode k bs ++ more)) (slice_set saved k (take n (bs ++ more)))) (size-encode k bs more)
    ∙ ap (λ z. run z (slice_set saved k (take (length bs) (bs ++ more)))) (drop_at (encode k bs) more (4 + length bs) (omega arith))
    ∙ ap (λ z. run more (slice_set saved k z)) (take_at bs more (length bs) refl)

-- what a reader finds in a log that is not too long, and in no other
pub read_run : (log : List ℕ) → length log ≤ 26592 → read_log log ≡ run log (replicate 7 [])
unfolding read_log
read_run log l = grind (arith, nat_tests)

pub read_long : (log : List ℕ) → 26592 < length log → read_log log ≡ None
unfolding read_log
read_long log l = grind (arith, nat_tests)

-- a log that grows by one piece
pub read_append : (log : List ℕ) (found : List (List ℕ)) (k : ℕ) (bs : List ℕ) → read_log log ≡ Some found → k ≤ 6 → 1 ≤ length bs → length bs ≤ 3320 → length log + 4 + length bs ≤ 26592 → read_log (log ++ encode k bs) ≡ Some (slice_set found k bs)
read_append log found k bs h known some fits room =
    let n = length-append log (encode k bs) in
    read_run (log ++ encode k bs) (omega arith)
    ∙ run-append (length log) log (encode k bs) (replicate 7 []) found (omega arith) (sym (read_run log (omega arith)) ∙ h)
    ∙ ap (λ z. run z found) (sym (append-nil (encode k bs)))
    ∙ run_piece k bs [] found known some fits
    ∙ run_end [] (slice_set found k bs) refl

pub read_nothing : read_log [] ≡ Some (replicate 7 [])
read_nothing = read_run [] (omega arith) ∙ run_end [] (replicate 7 []) refl
