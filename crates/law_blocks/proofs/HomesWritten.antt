-- A write keeps every home.
use Rattle.std.proofs.Common.{◌≡◌, ◌≢◌, ◌<◌, inl, inr, ◌/◌, ℕ, List, [], ◌∷◌, length, set, map, Some, sym, ◌∙◌, ap, subst, arith}
use Rattle.std.proofs.lemmas.Bool.{cases_eq}
use Rattle.std.proofs.lemmas.List.{set-get_or}
use Rattle.rb_base.specs.declared.sizes.TheConstants.{SLOTS}
use Rattle.rb_base.specs.Blocks.{table_blocks}
use Rattle.rb_base.specs.declared.shape.Shape.{Shape}
use Rattle.rb_model.specs.Change.{Kind, Place}
use Rattle.rb_segment.specs.Header.{Segment}
use Rattle.rb_segment.specs.Moves.{SegmentAges}
use Rattle.law_blocks.specs.Says.{says}
use Rattle.law_blocks.specs.Seen.{Goes}
use Rattle.law_blocks.specs.Values.{Past, HomesStand, rows_here}
use Rattle.law_blocks.specs.Writes.{Reads}
use Rattle.rb_txntable.specs.declared.looks.Look.TheVariants.{Active}
use Rattle.law_home.specs.Homes.{here, narrow}
use Rattle.law_home.specs.Kinds.{Undo}
use Rattle.law_home.specs.Steps.{Lives, Stands, cleaned}
use Rattle.law_home.specs.Walk.{Change, Home, Env, LiveAges, own}
use Rattle.law_home.specs.Writes.{written, change_of}
use Rattle.law_blocks.proofs.Commits.{with_laws, without_laws}
use Rattle.law_blocks.proofs.Homes.{own_here, length_here, some_here, old_later}
use Rattle.law_blocks.proofs.Seen.{live_ages, distinct, made}
use Rattle.law_home.proofs.Changes.{write_stands}
use Rattle.law_home.proofs.Homes.{lives_here, live_here, live_elsewhere}
use Rattle.law_home.proofs.Standing.{stands_age, stands_clean}

-- of fewer slots that go on
live_fewer : (goes goes2 : ℕ → Type 0) (w : ℕ → ℕ) (env env2 : Env) → ((t : ℕ) → goes2 t → goes t) → LiveAges goes w env env2 → LiveAges goes2 w env env2
live_fewer goes goes2 w env env2 of ages = record { ages = ages.ages; store = λ s p r g xid is. ages.store s p r (of s g) xid is; xid = λ s g. ages.xid s (of s g); goes_on = λ s g active. ages.goes_on s (of s g) active; active = ages.active }

module _ (shape : Shape) (segments after : ℕ → Segment) (past : Past) (lives : List (List Change)) (each : (g : ℕ) → SegmentAges (Goes lives g) (segments g) (after g)) where
  abbrev Old : Env
  Old = says shape segments

  abbrev New : Env
  New = says shape after

  abbrev OldWrites : ℕ → ℕ
  OldWrites g = (segments g).header.writes

  abbrev NewWrites : ℕ → ℕ
  NewWrites g = (after g).header.writes

  abbrev Here : ℕ → Env → (ℕ → ℕ) → List (List Change) → Home → Type 0
  Here b env w lives home = Stands env w past.base (rows_here shape b past.rows) (map (narrow b) past.list) lives home

  -- what the segments say grows older under a home
  pub home_ages : (b : ℕ) (home : Home) → Here b Old OldWrites (map (here b) lives) home → Here b New NewWrites (map (here b) lives) home
  home_ages b home stands = stands_age past.base (rows_here shape b past.rows) (map (narrow b) past.list) OldWrites NewWrites Old New (map (here b) lives) home (λ g. (each g).writes)
      (live_fewer (Lives lives) (Lives (map (here b) lives)) OldWrites Old New (λ t has. some_here b lives t has.0 has.1 has.2) (live_ages shape segments after lives each))
      (distinct shape after) (old_later OldWrites NewWrites (λ g. (each g).writes) (map (narrow b) past.list) stands.old) (made shape after) stands

  -- all homes stay, and the segments age
  pub homes_age : (homes : ℕ → Home) → HomesStand shape segments homes past lives → HomesStand shape after homes past lives
  homes_age homes stand b b_in = without_laws New NewWrites NewWrites past.base (rows_here shape b past.rows) (map (narrow b) past.list) (map (here b) lives) (homes b) (λ g. omega arith) (home_ages b (homes b) (with_laws shape segments past.base (rows_here shape b past.rows) (map (narrow b) past.list) (map (here b) lives) (homes b) (stand b b_in)))

  -- Slot t writes: its home is cleaned with the looks of before, the segments age and have the record at this place, and then
  -- the home has the change.
  module _ (homes homes2 : ℕ → Home) (t : ℕ) (kind : Kind) (r : Undo) (place : Place) (t_in : t < length lives) (active : New.look (New.xid t) ≡ Active) (there : New.store place ≡ Some r) (seg : place.seg ≡ t / SLOTS) (reads : Reads kind r (New.xid t) (cleaned Old (homes r.home))) (written_home : homes2 r.home ≡ written kind r place (cleaned Old (homes r.home))) (others : (b : ℕ) → b ≢ r.home → homes2 b ≡ homes b) (stand : HomesStand shape segments homes past lives) where
    abbrev pub Longer : List (List Change)
    Longer = set lives t (change_of kind r place ∷ own lives t)

    here_written : (b : ℕ) → b < table_blocks shape → b ≡ r.home → Here b New NewWrites (map (here b) Longer) (homes2 b)
    here_written b b_in at =
        let before : Here b Old OldWrites (map (here b) lives) (homes b) = with_laws shape segments past.base (rows_here shape b past.rows) (map (narrow b) past.list) (map (here b) lives) (homes b) (stand b b_in) in
        let clean : Here b Old OldWrites (map (here b) lives) (cleaned Old (homes b)) = stands_clean past.base (rows_here shape b past.rows) (map (narrow b) past.list) OldWrites Old (map (here b) lives) (homes b) before in
        let aged : Here b New NewWrites (map (here b) lives) (cleaned Old (homes b)) = home_ages b (cleaned Old (homes b)) clean in
        let reads_here : Reads kind r (New.xid t) (cleaned Old (homes b)) = subst (λ (z : ℕ). Reads kind r (New.xid t) (cleaned Old (homes z))) (sym at) reads in
        let wrote : Here b New NewWrites (set (map (here b) lives) t (change_of kind r place ∷ own (map (here b) lives) t)) (written kind r place (cleaned Old (homes b))) = write_stands NewWrites past.base (rows_here shape b past.rows) (map (narrow b) past.list) New (map (here b) lives) (cleaned Old (homes b)) aged t (omega (arith, t_in, length_here b lives)) active r kind place there reads_here.xid reads_here.here reads_here.sort seg reads_here.entry_before reads_here.cell_before reads_here.fits in
        let lists : set (map (here b) lives) t (change_of kind r place ∷ own (map (here b) lives) t) ≡ map (here b) Longer = ap (λ (z : List Change). set (map (here b) lives) t (change_of kind r place ∷ z)) (own_here b lives t) ∙ (ap (set (map (here b) lives) t) (sym (live_here b (own lives t) (change_of kind r place) (sym at))) ∙ sym (lives_here b lives t (change_of kind r place ∷ own lives t))) in
        let home : written kind r place (cleaned Old (homes b)) ≡ homes2 b = ap (λ (z : ℕ). written kind r place (cleaned Old (homes z))) at ∙ (sym written_home ∙ ap homes2 (sym at)) in
        subst (λ (z : Home). Here b New NewWrites (map (here b) Longer) z) home (subst (λ (z : List (List Change)). Here b New NewWrites z (written kind r place (cleaned Old (homes b)))) lists wrote)

    here_other : (b : ℕ) → b < table_blocks shape → b ≢ r.home → Here b New NewWrites (map (here b) Longer) (homes2 b)
    here_other b b_in ne =
        let before : Here b Old OldWrites (map (here b) lives) (homes b) = with_laws shape segments past.base (rows_here shape b past.rows) (map (narrow b) past.list) (map (here b) lives) (homes b) (stand b b_in) in
        let aged : Here b New NewWrites (map (here b) lives) (homes b) = home_ages b (homes b) before in
        let lists : map (here b) lives ≡ map (here b) Longer = sym (lives_here b lives t (change_of kind r place ∷ own lives t) ∙ (ap (set (map (here b) lives) t) (live_elsewhere b (own lives t) (change_of kind r place) (λ is. ne (sym is)) ∙ sym (own_here b lives t)) ∙ set-get_or (map (here b) lives) t [])) in
        subst (λ (z : Home). Here b New NewWrites (map (here b) Longer) z) (sym (others b ne)) (subst (λ (z : List (List Change)). Here b New NewWrites z (homes b)) lists aged)

    pub homes_write : HomesStand shape after homes2 past Longer
    homes_write b b_in = without_laws New NewWrites NewWrites past.base (rows_here shape b past.rows) (map (narrow b) past.list) (map (here b) Longer) (homes2 b) (λ g. omega arith) (elim (cases_eq b r.home) [ inl at ↦ here_written b b_in at | inr ne ↦ here_other b b_in ne ])
