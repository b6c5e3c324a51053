-- What an actor has in its progress: whom it has not joined, and how much fuel at most.
use Rattle.std.proofs.Common.{◌≡◌, ℕ, zero, suc, ◌+◌, ◌-◌, ◌≤◌, Bool, true, false, List, [], ◌∷◌, ◌++◌, length, refl, sym, ap, subst, ◌∙◌, arith, inl, inr}
use Rattle.std.specs.Prelude.{Option, Some, None, IsSomeAnd, ◌⊎◌, is_some, slice_get, slice_set, option_and_then, if◌then◌else◌}
use Rattle.cow_pages.specs.Listed.{bytes_listed}
use Rattle.wedge_base.specs.Images.{Image, fetch}
use Rattle.wedge_events.specs.declared.cells.DirectoryAsk.TheVariants as directory_ask
use Rattle.wedge_events.specs.declared.cells.DirectoryReply.TheVariants as directory_reply
use Rattle.wedge_events.specs.declared.cells.GateAsk.TheVariants as gate_ask
use Rattle.wedge_events.specs.declared.cells.GateReply.TheVariants as gate_reply
use Rattle.wedge_events.specs.declared.cells.LivesAsk.TheVariants as lives_ask
use Rattle.wedge_events.specs.declared.cells.LivesReply.TheVariants as lives_reply
use Rattle.wedge_events.specs.declared.cells.SlotAsk.TheVariants as slot_ask
use Rattle.wedge_events.specs.declared.cells.SlotReply.TheVariants as slot_reply
use Rattle.wedge_events.specs.declared.cells.StreamReply.TheVariants as stream_reply
use Rattle.wedge_events.specs.declared.events.Event.{Event}
use Rattle.wedge_events.specs.declared.events.Event.TheVariants as event
use Rattle.cow_pages.specs.PrivateMemory.{PrivateMemory}
use Rattle.rv_isa.specs.Table.{decode}
use Rattle.machine.specs.declared.phase.Phase.{Phase}
use Rattle.machine.specs.declared.phase.Phase.TheVariants as phase
use Rattle.machine.specs.Actors.{ActorState}
use Rattle.machine.specs.Children.{Children, is_number, fuel_given, is_child, with_child, without_child, all_given}
use Rattle.machine.specs.Local.{rest, is_running}
use Rattle.machine.specs.Take.{runs, next_start, takes, has_joined, has_entered, actor_begun, child_of, run_by, run_at}
use Rattle.machine.proofs.FuelGiven.{given_with, joined_fits, number_is, number_self, given_there, given_elsewhere, given_gone}
use Rattle.machine.proofs.Resting.{rests as rests_from, rest-stays}
use Rattle.run_laws.specs.FamilyTrees.{worth}
use Rattle.run_laws.proofs.Between.{joined_is, numbered_is, snapped_is, opened_is, loads_fuel}
use Rattle.run_laws.proofs.Families.{IsOfOne, takes_same}
use Rattle.run_laws.proofs.FamilyRuns.{kept_at_rest, rest_units}
use Rattle.thread_laws.specs.declared.gathered.ActorEnd.{ActorEnd}
use Rattle.thread_laws.specs.ActorProgresses.{ActorProgress, after_rest, after_entry, after_run, CreatedActor, NoJoin, IsProgress, begun, rests, does, starts, learns, joins, resumes, IsNumbered, ProgressKeepsAccount}
use Rattle.thread_laws.specs.Executions.{name_begun}
use Rattle.thread_laws.proofs.Families.{progress_knows}

-- ---- an actor at rest

record RestsWith (a b : ActorState) : Type 0 where
  unjoined : b.unjoined ≡ a.unjoined
  run_of : b.run_of ≡ a.run_of
  fuel : b.fuel ≤ a.fuel

rests_with : (i : Image) (a : ActorState) → RestsWith a (rest i a)
rests_with i a = record { unjoined = (kept_at_rest i a (is_running a.phase) refl).unjoined; run_of = run_kept (is_running a.phase) refl; fuel = (let units = rest_units i a in omega (arith, units)) }
  where
    run_kept : (t : Bool) → is_running a.phase ≡ t → (rest i a).run_of ≡ a.run_of
    run_kept true e = (rests_from i a e).run_of
    run_kept false e = ap (λ (x : ActorState). x.run_of) (rest-stays i a e)

-- ---- an event of one actor

less : (m n : ℕ) → m - n ≤ m
less m n = omega arith

itself_le : (m : ℕ) → m ≤ m
itself_le m = omega arith

takes_fuel : (i : Image) (b : ActorState) (e : Event) → IsOfOne e → (takes i b e).fuel ≤ b.fuel
unfolding takes
takes_fuel i b (event.Slot slot q (slot_reply.Loaded value)) h = subst (λ n. n ≤ b.fuel) (sym (loads_fuel (runs b) (option_and_then decode (fetch i b.hart.pc)) value)) (itself_le b.fuel)
takes_fuel i b (event.Slots (directory_ask.Release place) r) h = itself_le b.fuel
takes_fuel i b (event.Slots directory_ask.Claim (directory_reply.Claimed place number)) h = itself_le b.fuel
takes_fuel i b (event.Slots directory_ask.Claim directory_reply.Full) h = itself_le b.fuel
takes_fuel i b (event.Slots directory_ask.Claim directory_reply.Released) h = itself_le b.fuel
takes_fuel i b (event.Slot slot q (slot_reply.Snapped pages)) h = snapped_is (λ x. x.fuel ≤ b.fuel) b b.phase slot (Some (bytes_listed pages)) (itself_le b.fuel) (λ x. itself_le b.fuel) (λ x. itself_le b.fuel) (λ g. itself_le b.fuel)
takes_fuel i b (event.Slot slot q slot_reply.Gone) h = snapped_is (λ x. x.fuel ≤ b.fuel) b b.phase slot None (itself_le b.fuel) (λ x. itself_le b.fuel) (λ x. itself_le b.fuel) (λ g. itself_le b.fuel)
takes_fuel i b (event.Slot slot (slot_ask.Sfree offset live) (slot_reply.Denied tag wants)) h = itself_le b.fuel
takes_fuel i b (event.Slot slot (slot_ask.Open tag pages) slot_reply.Opened) h = itself_le b.fuel
takes_fuel i b (event.Slot slot q r) h = itself_le b.fuel
takes_fuel i b (event.Fds (directory_ask.Release place) r) h = itself_le b.fuel
takes_fuel i b (event.Fds directory_ask.Claim (directory_reply.Claimed fd number)) h = numbered_is (λ x. x.fuel ≤ b.fuel) b b.phase fd (itself_le b.fuel) (λ o. itself_le b.fuel)
takes_fuel i b (event.Fds directory_ask.Claim directory_reply.Full) h = itself_le b.fuel
takes_fuel i b (event.Fds directory_ask.Claim directory_reply.Released) h = itself_le b.fuel
takes_fuel i b (event.Fd fd q stream_reply.Opened) h = opened_is (λ x. x.fuel ≤ b.fuel) b b.phase fd (itself_le b.fuel) (λ o. less b.fuel _)
takes_fuel i b (event.Fd fd q (stream_reply.Given bytes)) h = less b.fuel (length bytes)
takes_fuel i b (event.Fd fd q stream_reply.Appended) h = less b.fuel _
takes_fuel i b (event.Fd fd q stream_reply.Closed) h = itself_le b.fuel
takes_fuel i b (event.Fd fd q stream_reply.NoSuch) h = itself_le b.fuel
takes_fuel i b (event.Fd fd q (stream_reply.Denied wants)) h = itself_le b.fuel
takes_fuel i b (event.Fd fd q stream_reply.Bad) h = itself_le b.fuel
takes_fuel i b (event.Lives lives_ask.Claim lives_reply.Claimed) h = itself_le b.fuel
takes_fuel i b (event.Lives lives_ask.Claim lives_reply.Full) h = itself_le b.fuel
takes_fuel i b (event.Lives lives_ask.Claim lives_reply.Released) h = itself_le b.fuel
takes_fuel i b (event.Lives (lives_ask.Release e) r) h = itself_le b.fuel
takes_fuel i b (event.Leave how) h = itself_le b.fuel
takes_fuel i b (event.Gate id (gate_ask.Leave how memory) r) h = itself_le b.fuel
takes_fuel i b (event.Gate id (gate_ask.Enter run first) gate_reply.Left) h = itself_le b.fuel
takes_fuel i b e h = absurd h

is_alone : (e : Event) → name_begun e ≡ None → NoJoin e → IsOfOne e
is_alone (event.Start child) n h = absurd cc
is_alone (event.Enter run) n h = absurd cc
is_alone (event.Gate id (gate_ask.Enter run first) r) n h = absurd cc
is_alone (event.Join k how fuel) n h = absurd h
is_alone e n h = tt

-- ---- one that begins another

record GivesTo (b x c : ActorState) : Type 0 where
  unjoined : x.unjoined ≡ with_child b.unjoined (next_start b) c.fuel
  run_of : x.run_of ≡ b.run_of
  fuel : x.fuel ≡ b.fuel - c.fuel

enters_gives : (b : ActorState) (run : List ℕ) (kept : Option PrivateMemory) (p : Phase) (c : ActorState) → run_at b run kept p ≡ Some c → GivesTo b (has_entered b p) c
enters_gives b run kept (phase.Entering x) c is =
    let one : run_by b run kept x ≡ c = cc in
    subst (GivesTo b (has_entered b (phase.Entering x))) one (record { unjoined = refl; run_of = refl; fuel = refl })
enters_gives b run kept p c is = absurd cc

takes_gives : (i : Image) (b : ActorState) (e : Event) (c : ActorState) → actor_begun i b e ≡ Some c → GivesTo b (takes i b e) c
unfolding takes
takes_gives i b (event.Start child) c is =
    let one : child_of i b child ≡ c = cc in
    subst (GivesTo b (takes i b (event.Start child))) one (record { unjoined = refl; run_of = refl; fuel = refl })
takes_gives i b (event.Enter run) c is = enters_gives b run None b.phase c is
takes_gives i b (event.Gate id (gate_ask.Enter run first) (gate_reply.Entered memory)) c is = enters_gives b run (Some memory) b.phase c is
takes_gives i b e c is = absurd cc

-- ---- one that takes back

record TakesBack (b x : ActorState) (k fuel : ℕ) : Type 0 where
  unjoined : x.unjoined ≡ without_child b.unjoined k
  run_of : x.run_of ≡ b.run_of
  fuel_ : x.fuel ≡ b.fuel + fuel

takes_back : (b : ActorState) (k : ℕ) (t : ActorEnd) → TakesBack b (has_joined b k t.how t.fuel) k t.fuel
takes_back b k t =
    let c = record b { fuel = b.fuel + t.fuel; unjoined = without_child b.unjoined k } in
    joined_is (λ x. TakesBack b x k t.fuel) c b.phase t.how (record { unjoined = refl; run_of = refl; fuel_ = refl }) (record { unjoined = refl; run_of = refl; fuel_ = refl })

joins_back : (i : Image) (b : ActorState) (k : ℕ) (t : ActorEnd) → TakesBack b (takes i b (event.Join k t.how t.fuel)) k t.fuel
unfolding takes
joins_back i b k t = takes_back b k t

-- ---- lists

get_append : (ks ys : List CreatedActor) (n : ℕ) (k : CreatedActor) → slice_get ks n ≡ Some k → slice_get (ks ++ ys) n ≡ Some k
get_append [] ys n k e = absurd cc
get_append (x ∷ ks) ys zero k e = e
get_append (x ∷ ks) ys (suc n) k e = get_append ks ys n k e

get_last : (ks : List CreatedActor) (k : CreatedActor) → slice_get (ks ++ k ∷ []) (length ks) ≡ Some k
get_last [] k = refl
get_last (x ∷ ks) k = get_last ks k

get_either : (ks : List CreatedActor) (k x : CreatedActor) (n : ℕ) → slice_get (ks ++ k ∷ []) n ≡ Some x → (slice_get ks n ≡ Some x) ⊎ (k ≡ x)
get_either [] k x zero e = inr cc
get_either [] k x (suc n) e = absurd cc
get_either (y ∷ ks) k x zero e = inl e
get_either (y ∷ ks) k x (suc n) e = get_either ks k x n e

get_set : (ks : List CreatedActor) (m n : ℕ) (k x : CreatedActor) → slice_get (slice_set ks m k) n ≡ Some x → (slice_get ks n ≡ Some x) ⊎ ((m ≡ n) × (k ≡ x))
get_set [] m n k x e = absurd cc
get_set (y ∷ ks) zero zero k x e = inr (refl, cc)
get_set (y ∷ ks) zero (suc n) k x e = inl e
get_set (y ∷ ks) (suc m) zero k x e = inl e
get_set (y ∷ ks) (suc m) (suc n) k x e = by_case (get_set ks m n k x e)
  where
    by_case : (slice_get ks n ≡ Some x) ⊎ ((m ≡ n) × (k ≡ x)) → (slice_get ks n ≡ Some x) ⊎ ((suc m ≡ suc n) × (k ≡ x))
    by_case (inl h) = inl h
    by_case (inr h) = inr (ap suc h.0, h.1)

-- one that is there is there still, as it began
set_there : (ks : List CreatedActor) (m n : ℕ) (k x : CreatedActor) (t : ActorEnd) → slice_get ks m ≡ Some k → slice_get ks n ≡ Some x → (y : CreatedActor) × (slice_get (slice_set ks m (record k { learned = Some t })) n ≡ Some y) × (y.began ≡ x.began)
set_there [] m n k x t at e = absurd cc
set_there (z ∷ ks) zero zero k x t at e = let one : z ≡ k = cc in let two : z ≡ x = cc in (record k { learned = Some t }, refl, ap (λ (y : CreatedActor). y.began) (sym one ∙ two))
set_there (z ∷ ks) zero (suc n) k x t at e = (x, e, refl)
set_there (z ∷ ks) (suc m) zero k x t at e = (x, e, refl)
set_there (z ∷ ks) (suc m) (suc n) k x t at e = set_there ks m n k x t at e

-- ---- the account

record HasAccount (r : ActorProgress) (created : List CreatedActor) : Type 0 where
  run_of : r.state.run_of ≡ r.began.run_of
  created_ : (number fuel : ℕ) → fuel_given r.state.unjoined number ≡ Some fuel → IsNumbered created number fuel
  learned : (index : ℕ) (k : CreatedActor) (t : ActorEnd) → slice_get created index ≡ Some k → k.learned ≡ Some t → t.fuel ≤ k.began.fuel
  fuel : worth r.state ≤ r.began.fuel

-- who is among fewer is among them
given_before : (cs : Children) (k n g : ℕ) → fuel_given (without_child cs k) n ≡ Some g → fuel_given cs n ≡ Some g
given_before cs k n g e = by_number (is_number n k) refl
  where
    by_number : (t : Bool) → is_number n k ≡ t → fuel_given cs n ≡ Some g
    by_number true is = let f : None ≡ Some g = sym (given_gone cs k) ∙ (ap (fuel_given (without_child cs k)) (sym (number_is n k is)) ∙ e) in absurd cc
    by_number false is = sym (given_elsewhere cs k n (λ same. let f : false ≡ true = sym is ∙ (ap (λ m. is_number n m) (sym same) ∙ number_self n) in absurd cc)) ∙ e

given_of : (cs : Children) (n : ℕ) → is_child cs n ≡ true → (g : ℕ) × (fuel_given cs n ≡ Some g)
given_of cs n e = by_found (fuel_given cs n) refl e
  where
    by_found : (o : Option ℕ) → fuel_given cs n ≡ o → is_some o ≡ true → (g : ℕ) × (fuel_given cs n ≡ Some g)
    by_found None is h = absurd cc
    by_found (Some g) is h = (g, is)

-- what a created actor brings back is at most what it was given
within_given : (r : ActorProgress) (created : List CreatedActor) (index : ℕ) (k : CreatedActor) (t : ActorEnd) → HasAccount r created → slice_get created index ≡ Some k → k.learned ≡ Some t → is_child r.state.unjoined (index + 1) ≡ true
    → t.fuel + all_given (without_child r.state.unjoined (index + 1)) ≤ all_given r.state.unjoined
within_given r created index k t h at learned listed =
    let g = given_of r.state.unjoined (index + 1) listed in
    let n = h.created_ (index + 1) g.0 g.1 in
    let number = n.number_ in
    let same_index : index ≡ n.index = omega (arith, number) in
    let both : Some k ≡ Some n.one = sym at ∙ (ap (slice_get created) same_index ∙ n.there) in
    let one : k ≡ n.one = cc in
    let given_is : g.0 ≡ k.began.fuel = n.fuel_ ∙ ap (λ (y : CreatedActor). y.began.fuel) (sym one) in
    let le = h.learned index k t at learned in
    let fits : IsSomeAnd (fuel_given r.state.unjoined (index + 1)) (λ given. t.fuel ≤ given) = subst (λ o. IsSomeAnd o (λ given. t.fuel ≤ given)) (sym g.1) (omega (arith, le, given_is)) in
    joined_fits r.state.unjoined (index + 1) t.fuel fits

worth_back : (b x : ActorState) (k f m : ℕ) → TakesBack b x k f → f + all_given (without_child b.unjoined k) ≤ all_given b.unjoined → worth b ≤ m → worth x ≤ m
worth_back b x k f m t le h =
    let fuel = t.fuel_ in
    let given : all_given x.unjoined ≡ all_given (without_child b.unjoined k) = ap all_given t.unjoined in
    omega (arith, fuel, given, le, h)

has_account : (i : Image) (r : ActorProgress) (created : List CreatedActor) → r.began.starts ≡ 0 → r.began.unjoined ≡ [] → IsProgress i r created → HasAccount r created
has_account i r created fresh lone (begun a low new ks is none) =
    let state_is : r.state ≡ r.began = ap (λ (x : ActorProgress). x.state) is ∙ sym (ap (λ (x : ActorProgress). x.began) is) in
    let nobody : r.state.unjoined ≡ [] = ap (λ (x : ActorState). x.unjoined) state_is ∙ lone in
    let fuel_is : r.state.fuel ≡ r.began.fuel = ap (λ (x : ActorState). x.fuel) state_is in
    let given_is : all_given r.state.unjoined ≡ 0 = ap all_given nobody in
    record {
      run_of = ap (λ (x : ActorState). x.run_of) state_is;
      created_ = λ n g e. (let f : None ≡ Some g = sym (ap (λ cs. fuel_given cs n) nobody) ∙ e in absurd cc);
      learned = λ index k t at learned. (let f : None ≡ Some k = sym (ap (λ xs. slice_get xs index) none) ∙ at in absurd cc);
      fuel = omega (arith, fuel_is, given_is);
    }
has_account i r created fresh lone (rests old new ks c is) =
    let began_is : r.began ≡ old.began = ap (λ (x : ActorProgress). x.began) is in
    let h = has_account i old ks (ap (λ (x : ActorState). x.starts) (sym began_is) ∙ fresh) (ap (λ (x : ActorState). x.unjoined) (sym began_is) ∙ lone) c in
    let w = rests_with i old.state in
    let le = w.fuel in
    let was = h.fuel in
    let given_is : all_given (rest i old.state).unjoined ≡ all_given old.state.unjoined = ap all_given w.unjoined in
    let so : HasAccount (after_rest i old) ks = record {
      run_of = w.run_of ∙ h.run_of;
      created_ = λ n g e. h.created_ n g (ap (λ cs. fuel_given cs n) (sym w.unjoined) ∙ e);
      learned = h.learned;
      fuel = omega (arith, le, was, given_is);
    } in
    subst (λ x. HasAccount x ks) (sym is) so
has_account i r created fresh lone (does old new ks e c own stamped none no_join is) =
    let began_is : r.began ≡ old.began = ap (λ (x : ActorProgress). x.began) is in
    let h = has_account i old ks (ap (λ (x : ActorState). x.starts) (sym began_is) ∙ fresh) (ap (λ (x : ActorState). x.unjoined) (sym began_is) ∙ lone) c in
    let one = is_alone e.event none no_join in
    let s = takes_same i old.state e.event one in
    let le = takes_fuel i old.state e.event one in
    let was = h.fuel in
    let given_is : all_given (takes i old.state e.event).unjoined ≡ all_given old.state.unjoined = ap all_given s.unjoined in
    let so : HasAccount (after_entry i old e) ks = record {
      run_of = s.run_of ∙ h.run_of;
      created_ = λ n g f. h.created_ n g (ap (λ cs. fuel_given cs n) (sym s.unjoined) ∙ f);
      learned = h.learned;
      fuel = omega (arith, le, was, given_is);
    } in
    subst (λ x. HasAccount x ks) (sym is) so
has_account i r created fresh lone (starts old new ks more k e c own stamped begins_so next enough stamp unlearned is grown) =
    let began_is : r.began ≡ old.began = ap (λ (x : ActorProgress). x.began) is in
    let h = has_account i old ks (ap (λ (x : ActorState). x.starts) (sym began_is) ∙ fresh) (ap (λ (x : ActorState). x.unjoined) (sym began_is) ∙ lone) c in
    let count = (progress_knows i old ks c).starts_ in
    let zero_ : old.began.starts ≡ 0 = ap (λ (x : ActorState). x.starts) (sym began_is) ∙ fresh in
    let number : next_start old.state ≡ length ks + 1 = omega (arith, count, zero_) in
    let v = takes_gives i old.state e.event k.began begins_so in
    let fuel_is = v.fuel in
    let was = h.fuel in
    let given_is : all_given (takes i old.state e.event).unjoined ≡ all_given (with_child old.state.unjoined (next_start old.state) k.began.fuel) = ap all_given v.unjoined in
    let le = given_with old.state.unjoined (next_start old.state) k.began.fuel in
    let so : HasAccount (after_entry i old e) (ks ++ k ∷ []) = record {
      run_of = v.run_of ∙ h.run_of;
      created_ = λ n g f. one_more_created old.state ks k n g h.created_ number (sym (given_there old.state.unjoined (next_start old.state) k.began.fuel n) ∙ (ap (λ cs. fuel_given cs n) (sym v.unjoined) ∙ f));
      learned = λ index x t at learned. one_more_learned ks k index x t h.learned unlearned (get_either ks k x index at) learned;
      fuel = omega (arith, fuel_is, was, given_is, le, enough);
    } in
    subst (λ x. HasAccount r x) (sym grown) (subst (λ x. HasAccount x (ks ++ k ∷ [])) (sym is) so)
  where
    one_more_created : (b : ActorState) (ks : List CreatedActor) (k : CreatedActor) (n g : ℕ) → ((m f : ℕ) → fuel_given b.unjoined m ≡ Some f → IsNumbered ks m f) → next_start b ≡ length ks + 1
        → (if is_number n (next_start b) then Some k.began.fuel else fuel_given b.unjoined n) ≡ Some g → IsNumbered (ks ++ k ∷ []) n g
    one_more_created b ks k n g old number e = by_number (is_number n (next_start b)) refl e
      where
        by_number : (t : Bool) → is_number n (next_start b) ≡ t → (if t then Some k.began.fuel else fuel_given b.unjoined n) ≡ Some g → IsNumbered (ks ++ k ∷ []) n g
        by_number true is f = let same_fuel : k.began.fuel ≡ g = cc in record { index = length ks; number_ = number_is n (next_start b) is ∙ number; one = k; there = get_last ks k; fuel_ = sym same_fuel }
        by_number false is f = let m = old n g f in record { index = m.index; number_ = m.number_; one = m.one; there = get_append ks (k ∷ []) m.index m.one m.there; fuel_ = m.fuel_ }

    one_more_learned : (ks : List CreatedActor) (k : CreatedActor) (index : ℕ) (x : CreatedActor) (t : ActorEnd) → ((n : ℕ) (y : CreatedActor) (u : ActorEnd) → slice_get ks n ≡ Some y → y.learned ≡ Some u → u.fuel ≤ y.began.fuel) → k.learned ≡ None
        → (slice_get ks index ≡ Some x) ⊎ (k ≡ x) → x.learned ≡ Some t → t.fuel ≤ x.began.fuel
    one_more_learned ks k index x t old unlearned (inl at) learned = old index x t at learned
    one_more_learned ks k index x t old unlearned (inr is) learned = let f : None ≡ Some t = sym unlearned ∙ (ap (λ (y : CreatedActor). y.learned) is ∙ learned) in absurd cc
has_account i r created fresh lone (learns way ks more index k t c at learned within grown) =
    let h = has_account i way ks fresh lone c in
    let so : HasAccount way (slice_set ks index (record k { learned = Some t })) = record {
      run_of = h.run_of;
      created_ = λ n g e.
          let m = h.created_ n g e in
          let y = set_there ks index m.index k m.one t at m.there in
          record { index = m.index; number_ = m.number_; one = y.0; there = y.1; fuel_ = m.fuel_ ∙ ap (λ (x : ActorState). x.fuel) (sym y.2) };
      learned = λ j x u there so_learned. set_learned ks index k t j x u within h.learned (get_set ks index j (record k { learned = Some t }) x there) so_learned;
      fuel = h.fuel;
    } in
    subst (λ x. HasAccount way x) (sym grown) so
  where
    set_learned : (ks : List CreatedActor) (index : ℕ) (k : CreatedActor) (t : ActorEnd) (j : ℕ) (x : CreatedActor) (u : ActorEnd) → t.fuel ≤ k.began.fuel → ((n : ℕ) (y : CreatedActor) (v : ActorEnd) → slice_get ks n ≡ Some y → y.learned ≡ Some v → v.fuel ≤ y.began.fuel)
        → (slice_get ks j ≡ Some x) ⊎ ((index ≡ j) × (record k { learned = Some t } ≡ x)) → x.learned ≡ Some u → u.fuel ≤ x.began.fuel
    set_learned ks index k t j x u within old (inl there) learned = old j x u there learned
    set_learned ks index k t j x u within old (inr p) learned =
        let both : Some t ≡ Some u = ap (λ (y : CreatedActor). y.learned) p.1 ∙ learned in
        let one : t ≡ u = cc in
        let fuel_is : t.fuel ≡ u.fuel = ap (λ (y : ActorEnd). y.fuel) one in
        let began_is : k.began.fuel ≡ x.began.fuel = ap (λ (y : CreatedActor). y.began.fuel) p.1 in
        omega (arith, within, fuel_is, began_is)
has_account i r created fresh lone (joins old new ks e index k t c own at learned listed event_is above is) =
    let began_is : r.began ≡ old.began = ap (λ (x : ActorProgress). x.began) is in
    let h = has_account i old ks (ap (λ (x : ActorState). x.starts) (sym began_is) ∙ fresh) (ap (λ (x : ActorState). x.unjoined) (sym began_is) ∙ lone) c in
    let back : TakesBack old.state (takes i old.state e.event) (index + 1) t.fuel = subst (λ x. TakesBack old.state (takes i old.state x) (index + 1) t.fuel) (sym event_is) (joins_back i old.state (index + 1) t) in
    let so : HasAccount (after_entry i old e) ks = record {
      run_of = back.run_of ∙ h.run_of;
      created_ = λ n g f. h.created_ n g (given_before old.state.unjoined (index + 1) n g (ap (λ cs. fuel_given cs n) (sym back.unjoined) ∙ f));
      learned = h.learned;
      fuel = worth_back old.state (takes i old.state e.event) (index + 1) t.fuel old.began.fuel back (within_given old ks index k t h at learned listed) h.fuel;
    } in
    subst (λ x. HasAccount x ks) (sym is) so
has_account i r created fresh lone (resumes old new ks index k t c waits at learned listed le is) =
    let began_is : r.began ≡ old.began = ap (λ (x : ActorProgress). x.began) is in
    let h = has_account i old ks (ap (λ (x : ActorState). x.starts) (sym began_is) ∙ fresh) (ap (λ (x : ActorState). x.unjoined) (sym began_is) ∙ lone) c in
    let back = takes_back old.state (index + 1) t in
    let so : HasAccount (after_run old (index + 1) t) ks = record {
      run_of = back.run_of ∙ h.run_of;
      created_ = λ n g f. h.created_ n g (given_before old.state.unjoined (index + 1) n g (ap (λ cs. fuel_given cs n) (sym back.unjoined) ∙ f));
      learned = h.learned;
      fuel = worth_back old.state (has_joined old.state (index + 1) t.how t.fuel) (index + 1) t.fuel old.began.fuel back (within_given old ks index k t h at learned listed) h.fuel;
    } in
    subst (λ x. HasAccount x ks) (sym is) so

pub progress_keeps_account : ProgressKeepsAccount
progress_keeps_account i r created fresh lone c =
    let h = has_account i r created fresh lone c in
    record { name = (progress_knows i r created c).name; run_of = h.run_of; created_ = h.created_; learned = h.learned; fuel = h.fuel }
