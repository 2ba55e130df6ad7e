-- How a memory disk goes on by one call.
use Rattle.std.proofs.Common.{◌≡◌, ℕ, ◌≤◌, true, false, List, [], ◌∷◌, ◌++◌, length, refl, sym, ◌∙◌, ap, subst, inl, arith, le-leb}
use Rattle.std.proofs.lemmas.List.{append-nil, take_all, drop_all}
use Rattle.std.proofs.lemmas.Bool.{and_from}
use Rattle.rb_base.specs.Fields.{overwritten}
use Rattle.rb_base.specs.Moments.{Passes}
use Rattle.rb_memdisk.specs.declared.call.Call.{Call}
use Rattle.rb_memdisk.specs.declared.call.Call.TheVariants.{Length, Read, Write, Sync}
use Rattle.rb_memdisk.specs.declared.memory.MemDisk.{MemDisk}
use Rattle.rb_memdisk.specs.Record.{read_after, left_after, read_after_all, left_after_all, fits_one, fits, images_after, IsIdle, IsUndone, MayLeave, MayLeaveSince}
use Rattle.rb_disk.specs.Writes.{none_is_torn}
use Rattle.rb_memdisk.specs.Replays.{GoesOn, read_goes_on, left_goes_on, fits_go_on, images_now, passes}
use Rattle.rb_memdisk.specs.MemDisk.{bytes_of, first_bytes, record_of, written_of, made, MayLeaveNow, LeavesSince, GoesOnBy}

-- by a call that is recorded and brings these bytes
pub by_one : (old new : MemDisk) (call : Call) (bytes : List ℕ) → first_bytes new ≡ first_bytes old → record_of new ≡ record_of old ++ call ∷ [] → written_of new ≡ written_of old ++ bytes
    → GoesOnBy old new call
by_one old new call bytes first_is calls_is written_is =
    let on : GoesOn (first_bytes old) (record_of old) (written_of old) call bytes (record_of new) (written_of new) =
    record { fitting = old.fitting; used_up = old.used_up; calls_is = calls_is; written_is = written_is } in
    record {
      images = λ c left.
          subst (λ (file : List ℕ). images_after (MayLeaveNow old) file call c) (sym old.reads)
          (images_now (first_bytes old) (record_of old) (written_of old) call bytes (record_of new) (written_of new) on c
          (subst (λ (first : List ℕ). MayLeave first (record_of new) (written_of new) (made new) c) first_is left));
      time =
          subst (λ (first : List ℕ). Passes (made old) (made new) (LeavesSince old) (MayLeaveSince first (record_of new) (written_of new)) (λ c. MayLeave first (record_of new) (written_of new) (made new) c)) (sym first_is)
          (passes (first_bytes old) (record_of old) (written_of old) call bytes (record_of new) (written_of new) on);
    }

-- a call that has no place in the record
undone_images : (images : List ℕ → Type 0) (file : List ℕ) (call : Call) (c : List ℕ) → IsUndone file call → images c → images_after images file call c
undone_images images file Length c undone here = here
undone_images images file Read c undone here = here
undone_images images file (Write at count true) c undone here = absurd undone
undone_images images file (Write at count false) c undone here = (c, here, none_is_torn at count c)
undone_images images file (Sync true) c undone here = absurd undone
undone_images images file (Sync false) c undone here = here

pub by_none : (old : MemDisk) (call : Call) → IsUndone (bytes_of old) call → GoesOnBy old old call
by_none old call undone = record {
  images = λ c left. undone_images (MayLeaveNow old) (bytes_of old) call c undone left;
  time = record { later = omega arith; splits = λ t c le since. inl since; stay = λ t c le since. since };
}

-- The ghost fields after a call that is recorded and brings these bytes.
module _ (disk : MemDisk) (call : Call) (bytes : List ℕ) (calls_now : List Call) (written_now : List ℕ) (calls_is : calls_now ≡ record_of disk ++ call ∷ []) (written_is : written_now ≡ written_of disk ++ bytes) where
  on_by : GoesOn (first_bytes disk) (record_of disk) (written_of disk) call bytes calls_now written_now
  on_by = record { fitting = disk.fitting; used_up = disk.used_up; calls_is = calls_is; written_is = written_is }

  pub reads_more : (bytes_now : List ℕ) → bytes_now ≡ read_after (bytes_of disk) call bytes → bytes_now ≡ read_after_all (first_bytes disk) calls_now written_now
  reads_more bytes_now is =
      is ∙ ap (λ file. read_after file call bytes) disk.reads ∙ sym (read_goes_on (first_bytes disk) (record_of disk) (written_of disk) call bytes calls_now written_now on_by)

  pub fits_more : fits_one (bytes_of disk) call bytes ≡ true → fits (first_bytes disk) calls_now written_now ≡ true
  fits_more last =
      fits_go_on (first_bytes disk) (record_of disk) (written_of disk) call bytes calls_now written_now on_by
      (subst (λ (file : List ℕ). fits_one file call bytes ≡ true) disk.reads last)

  pub left_more : left_after call bytes ≡ [] → left_after_all calls_now written_now ≡ []
  left_more none = left_goes_on (first_bytes disk) (record_of disk) (written_of disk) call bytes calls_now written_now on_by ∙ none

idle_read : (file : List ℕ) (call : Call) → IsIdle file call → file ≡ read_after file call []
idle_read file Length idle = refl
idle_read file Read idle = refl
idle_read file (Write at count true) idle = absurd idle
idle_read file (Write at count false) idle = refl
idle_read file (Sync done) idle = refl

idle_left : (file : List ℕ) (call : Call) → IsIdle file call → left_after call [] ≡ []
idle_left file Length idle = refl
idle_left file Read idle = refl
idle_left file (Write at count true) idle = absurd idle
idle_left file (Write at count false) idle = refl
idle_left file (Sync done) idle = refl

idle_fits : (file : List ℕ) (call : Call) → IsIdle file call → fits_one file call [] ≡ true
idle_fits file Length idle = refl
idle_fits file Read idle = refl
idle_fits file (Write at count true) idle = absurd idle
idle_fits file (Write at count false) idle = le-leb at (length file) idle
idle_fits file (Sync done) idle = refl

-- the same after a call that brings none
module _ (disk : MemDisk) (call : Call) (calls_now : List Call) (calls_is : calls_now ≡ record_of disk ++ call ∷ []) (idle : IsIdle (bytes_of disk) call) where
  pub idle_reads_more : bytes_of disk ≡ read_after_all (first_bytes disk) calls_now (written_of disk)
  idle_reads_more = reads_more disk call [] calls_now (written_of disk) calls_is (sym (append-nil (written_of disk))) (bytes_of disk) (idle_read (bytes_of disk) call idle)

  pub idle_fits_more : fits (first_bytes disk) calls_now (written_of disk) ≡ true
  idle_fits_more = fits_more disk call [] calls_now (written_of disk) calls_is (sym (append-nil (written_of disk))) (idle_fits (bytes_of disk) call idle)

  pub idle_left_more : left_after_all calls_now (written_of disk) ≡ []
  idle_left_more = left_more disk call [] calls_now (written_of disk) calls_is (sym (append-nil (written_of disk))) (idle_left (bytes_of disk) call idle)

-- and after a write that was done
module _ (disk : MemDisk) (at : ℕ) (piece : List ℕ) (calls_now : List Call) (written_now : List ℕ) (calls_is : calls_now ≡ record_of disk ++ Write at (length piece) true ∷ []) (written_is : written_now ≡ written_of disk ++ piece) where
  pub stored_reads_more : (bytes_now : List ℕ) → bytes_now ≡ overwritten (bytes_of disk) at piece → bytes_now ≡ read_after_all (first_bytes disk) calls_now written_now
  stored_reads_more bytes_now is =
      reads_more disk (Write at (length piece) true) piece calls_now written_now calls_is written_is bytes_now
      (is ∙ ap (λ bytes. overwritten (bytes_of disk) at bytes) (sym (take_all (length piece) piece (omega arith))))

  pub stored_fits_more : at ≤ length (bytes_of disk) → fits (first_bytes disk) calls_now written_now ≡ true
  stored_fits_more begins =
      fits_more disk (Write at (length piece) true) piece calls_now written_now calls_is written_is
      (and_from _ _ (le-leb at (length (bytes_of disk)) begins) (le-leb (length piece) (length piece) (omega arith)))

  pub stored_left_more : left_after_all calls_now written_now ≡ []
  stored_left_more = left_more disk (Write at (length piece) true) piece calls_now written_now calls_is written_is (drop_all (length piece) piece (omega arith))
