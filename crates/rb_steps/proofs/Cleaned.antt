-- What the patches of a cleaning make of blocks that stand for the machine's state.
use Rattle.std.proofs.Common.{◌≡◌, ◌<◌, ◌≤◌, ◌+◌, ◌^◌, ℕ, List, length, None, refl, sym, ◌∙◌, arith}
use Rattle.std.specs.List.{AllByRecursion}
use Rattle.rb_base.proofs.Each.{all_so}
use Rattle.rb_base.specs.Blocks.{after_group, block_of, table_blocks, written_to}
use Rattle.rb_base.specs.Groups.{IsGroup, Patch}
use Rattle.rb_base.specs.declared.ids.Xid.{Xid}
use Rattle.rb_write.proofs.Looks.{block_same}
use Rattle.rb_cleanout.proofs.Grouped.{copy_home, lengths_stay, of_block, others_stay}
use Rattle.rb_cleanout.specs.Cleaned.{PlansClean, look_of}
use Rattle.rb_heap.specs.Cleaning.{IsCleanPatch, cleaned_home}
use Rattle.rb_heap.specs.Homes.{home_of}
use Rattle.law_crash.specs.Made.{CleanMade}
use Rattle.rb_model.specs.State.{State}
use Rattle.rb_restart.proofs.Slots.{owed_is}
use Rattle.law_blocks.proofs.BlocksCleaned.{segments_same}
use Rattle.law_blocks.proofs.MachineBlocks.{machine_cleaned}
use Rattle.law_blocks.proofs.Group.{logged_next}
use Rattle.law_blocks.specs.BlockLaws.{HasNext}
use Rattle.law_blocks.specs.Groups.{IsCleaned}
use Rattle.law_blocks.specs.Standing.{env_of, logged_of, segments_of}
use Rattle.law_blocks.specs.States.{BlocksStand, lives_of, past_of}
use Rattle.rb_steps.proofs.Owed.{after_few}
use Rattle.rb_steps.proofs.Young.{young}

module _ (h : State) (xids : List Xid) (before : List (List ℕ)) (stand : BlocksStand h xids before) (b : ℕ) (there : b < table_blocks h.shape) (patches : List Patch) (clean : AllByRecursion (IsCleanPatch b) patches)
    (plans : PlansClean (look_of h.shape before) b patches (block_of before b)) where
  -- the look of the headers is that of the segments
  pub looks_same : cleaned_home (look_of h.shape before) (home_of (block_of before b)) ≡ cleaned_home (env_of h.shape before).look (home_of (block_of before b))
  looks_same = block_same h.shape before b there (young h xids before stand)

  module _ (valid : IsGroup patches) (some : 1 ≤ length patches) (worn : logged_of h.shape before < 2 ^ 60) where
    abbrev Now : List (List ℕ)
    Now = after_group (logged_of h.shape before + 1) patches before

    next : HasNext h.shape before
    next =
        let few = after_few h xids before None stand in
        let same = owed_is h.shape before in
        omega (arith, few, same, worn)

    is_cleaned : IsCleaned h.shape b before Now
    is_cleaned = record {
      group = record {
        patches = patches;
        some = some;
        each = valid.each;
        only = all_so (IsCleanPatch b) (λ (p : Patch). p.block ≡ b) patches (of_block b) clean;
        made = refl;
      };
      home = copy_home (logged_of h.shape before + 1) b patches clean h.shape before (written_to b patches (block_of before b)) stand.standing.whole (omega (arith, there)) refl ∙ plans ∙ looks_same;
      short = lengths_stay (logged_of h.shape before + 1) b patches clean h.shape before stand.standing.whole (omega (arith, there));
      patches = clean;
    }

    segments : segments_of h.shape Now ≡ segments_of h.shape before
    segments = segments_same h.shape before Now (past_of h xids) (lives_of h (env_of h.shape before)) b stand.tell.in_range there next stand.standing is_cleaned

    pub clean_made : CleanMade h xids b before Now
    clean_made = record {
      stand = machine_cleaned h xids before Now b there next stand is_cleaned;
      segments = segments;
      group = is_cleaned;
      home = is_cleaned.home;
      others = λ k ne. others_stay (logged_of h.shape before + 1) b patches clean before k ne;
      last = logged_next h.shape (λ x. x ≡ b) before Now is_cleaned.group stand.standing.whole (λ x is. omega (arith, is, there)) (let a = next in omega (arith, a));
    }

  -- The block so patched, by whatever group, is cleaned.
  pub home_after : (number : ℕ) → home_of (block_of (after_group number patches before) b) ≡ cleaned_home (env_of h.shape before).look (home_of (block_of before b))
  home_after number = copy_home number b patches clean h.shape before (written_to b patches (block_of before b)) stand.standing.whole (omega (arith, there)) refl ∙ plans ∙ looks_same

-- Where there is nothing to clean it is clean.
pub home_is_clean : (h : State) (xids : List Xid) (before : List (List ℕ)) → BlocksStand h xids before → (b : ℕ) → b < table_blocks h.shape → cleaned_home (look_of h.shape before) (home_of (block_of before b)) ≡ home_of (block_of before b)
    → home_of (block_of before b) ≡ cleaned_home (env_of h.shape before).look (home_of (block_of before b))
home_is_clean h xids before stand b there is = sym is ∙ block_same h.shape before b there (young h xids before stand)
