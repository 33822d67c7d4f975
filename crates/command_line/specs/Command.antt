-- What the words of a command line ask for.
use Rattle.std.specs.Prelude.{ℕ, ◌*◌, ◌≤◌, Bool, ◌&&◌, ◌==◌, nat_le, List, [], ◌∷◌, Option, None, Some, is_none, unwrap_or, bytes_eq, codes}
use Rattle.std.specs.{Prelude.if◌then◌else◌, Option.{option_and_then, option_map}}
use Rattle.command_line.specs.{Number.number_within, declared.command.Command.Command}
use Rattle.command_line.specs.declared.command.Command.TheVariants.{Run, Plan, Gen, Trial, Net, Enclose, Compile, RunPlan}
use Rattle.command_line.specs.declared.{command.Generation.Generation, options.Options.Options, setting.NetSetting.NetSetting}
use Rattle.command_line.specs.declared.setting.{Setting.Setting, Ways.{Ways, TheVariants.{One, Two, Four, Eight, Sixteen, ThirtyTwo}}}

-- how many keys a bucket holds
abbrev pub ways_number : Ways → ℕ
ways_number One = 1
ways_number Two = 2
ways_number Four = 4
ways_number Eight = 8
ways_number Sixteen = 16
ways_number ThirtyTwo = 32

abbrev pub ways_with : ℕ → Option Ways
ways_with n =
    if n == 1 then Some One
    else if n == 2 then Some Two
    else if n == 4 then Some Four
    else if n == 8 then Some Eight
    else if n == 16 then Some Sixteen
    else if n == 32 then Some ThirtyTwo
    else None

abbrev pub ways_of : List ℕ → Option Ways
ways_of text = option_and_then ways_with (number_within 1 32 text)

abbrev pub no_options : Options
no_options = record { buckets = None; ways = None; pipe = None; lag = None; refresh = None; every = None }

-- the value is in these limits, where there is one
abbrev pub IsWithin : ℕ → ℕ → Option ℕ → Type 0
IsWithin least most None = Unit {0}
IsWithin least most (Some n) = (least ≤ n) × (n ≤ most)

-- the numbers of the options are in their limits
pub record AreWithin (options : Options) : Type 0 where
  pub buckets : IsWithin 1 65536 options.buckets
  pub pipe : IsWithin 1 65536 options.pipe
  pub lag : IsWithin 1 1000000 options.lag
  pub refresh : IsWithin 0 4194304 options.refresh
  pub every : IsWithin 0 4194304 options.every

-- the word names an option that isn't set yet
abbrev pub is_new : {A : Type 0} → List ℕ → List ℕ → Option A → Bool
is_new option name value = bytes_eq name option && is_none value

-- the options with one more; each is named at most once
abbrev pub with_option : Options → List ℕ → List ℕ → Option Options
with_option options name value =
    if is_new (codes "--buckets") name options.buckets
    then option_map (λ n. record options { buckets = Some n }) (number_within 1 65536 value)
    else if is_new (codes "--ways") name options.ways then option_map (λ ways. record options { ways = Some ways }) (ways_of value)
    else if is_new (codes "--pipe") name options.pipe
    then option_map (λ n. record options { pipe = Some n }) (number_within 1 65536 value)
    else if is_new (codes "--lag") name options.lag
    then option_map (λ n. record options { lag = Some n }) (number_within 1 1000000 value)
    else if is_new (codes "--refresh") name options.refresh
    then option_map (λ n. record options { refresh = Some n }) (number_within 0 4194304 value)
    else if is_new (codes "--every") name options.every
    then option_map (λ n. record options { every = Some n }) (number_within 0 4194304 value)
    else None

-- the options with those that pairs of words name, in any order
abbrev pub options_from : Options → List (List ℕ) → Option Options
options_from options [] = Some options
options_from options (name ∷ []) = None
options_from options (name ∷ value ∷ rest) = option_and_then (λ more. options_from more rest) (with_option options name value)

-- the setting of a run: 1,024 buckets of 8 ways, 64 records of a pipe, a merge after each packet and no refresh where the options don't say
-- otherwise; a cache has at most 65,536 places
abbrev pub setting_of : Options → Option Setting
setting_of options =
    let buckets = unwrap_or options.buckets 1024 in
    let ways = unwrap_or options.ways Eight in
    if nat_le (buckets * ways_number ways) 65536
    then Some (record {
      buckets = buckets;
      ways = ways;
      pipe = unwrap_or options.pipe 64;
      lag = unwrap_or options.lag 1;
      refresh = unwrap_or options.refresh 0;
    })
    else None

-- the setting of a command that gives no views
abbrev pub plain_setting_of : Options → Option Setting
plain_setting_of options = if is_none options.every then setting_of options else None

abbrev pub setting_from : List (List ℕ) → Option Setting
setting_from words = option_and_then plain_setting_of (options_from no_options words)

-- The setting of each of several switches: 64 buckets of 8 ways, 64 records of a pipe and a merge after each packet
-- where the options don't say otherwise. A cache has at most 1,024 places and a pipe at most 1,024 records; no caches
-- are emptied before the end, and there are no views
abbrev pub net_setting_of : Options → Option NetSetting
net_setting_of options =
    let buckets = unwrap_or options.buckets 64 in
    let ways = unwrap_or options.ways Eight in
    let pipe = unwrap_or options.pipe 64 in
    if is_none options.refresh && is_none options.every && nat_le (buckets * ways_number ways) 1024 && nat_le pipe 1024
    then Some (record { buckets = buckets; ways = ways; pipe = pipe; lag = unwrap_or options.lag 1 })
    else None

abbrev pub net_setting_from : List (List ℕ) → Option NetSetting
net_setting_from words = option_and_then net_setting_of (options_from no_options words)

-- 1 to 1,000,000 packets, from a start of at most 2,147,483,647
abbrev pub generation_of : List ℕ → List ℕ → Option Generation
generation_of packets start =
    option_and_then (λ n. option_map (λ s. record { packets = n; start = s }) (number_within 0 2147483647 start))
    (number_within 1 1000000 packets)

-- a run with these options: without views where they don't say otherwise
abbrev pub run_with : Options → Option Command
run_with options = option_map (λ setting. Run setting (unwrap_or options.every 0)) (setting_of options)

-- run QUERY TRACE [options]. Any words can be the operands
abbrev pub asked_run : List (List ℕ) → Option Command
asked_run (query ∷ trace ∷ options) = option_and_then run_with (options_from no_options options)
asked_run words = None

-- plan QUERY [--ways W]
abbrev pub asked_plan : List (List ℕ) → Option Command
asked_plan (query ∷ []) = Some (Plan Eight)
asked_plan (query ∷ name ∷ value ∷ []) = if bytes_eq name (codes "--ways") then option_map Plan (ways_of value) else None
asked_plan words = None

-- gen PACKETS START
abbrev pub asked_gen : List (List ℕ) → Option Command
asked_gen (packets ∷ start ∷ []) = option_map Gen (generation_of packets start)
asked_gen words = None

-- trial PACKETS START [options]
abbrev pub asked_trial : List (List ℕ) → Option Command
asked_trial (packets ∷ start ∷ options) = option_and_then
    (λ generation. option_map (Trial generation) (setting_from options)) (generation_of packets start)
asked_trial words = None

-- net QUERY TRACE [options]
abbrev pub asked_net : List (List ℕ) → Option Command
asked_net (query ∷ trace ∷ options) = option_map Net (net_setting_from options)
asked_net words = None

-- the setting that the words after two operands give, where they name no views
abbrev pub setting_after : List (List ℕ) → Option Setting
setting_after (first ∷ second ∷ options) = setting_from options
setting_after words = None

-- compile QUERY
abbrev pub asked_compile : List (List ℕ) → Option Command
asked_compile (query ∷ []) = Some Compile
asked_compile words = None

-- The command that the words ask for. `enclose QUERY TRACE [options]` and `run-plan PLAN TRACE [options]` take the
-- options of a run but for its views.
abbrev pub asked : List (List ℕ) → Option Command
asked [] = None
asked (name ∷ words) =
    if bytes_eq name (codes "run") then asked_run words
    else if bytes_eq name (codes "plan") then asked_plan words
    else if bytes_eq name (codes "gen") then asked_gen words
    else if bytes_eq name (codes "trial") then asked_trial words
    else if bytes_eq name (codes "net") then asked_net words
    else if bytes_eq name (codes "enclose") then option_map Enclose (setting_after words)
    else if bytes_eq name (codes "compile") then asked_compile words
    else if bytes_eq name (codes "run-plan") then option_map RunPlan (setting_after words)
    else None

-- The numbers of a setting are in their limits.
pub record IsSetting (setting : Setting) : Type 0 where
  pub some_buckets : 1 ≤ setting.buckets
  pub places : setting.buckets * ways_number setting.ways ≤ 65536
  pub some_records : 1 ≤ setting.pipe
  pub records : setting.pipe ≤ 65536
  pub some_lag : 1 ≤ setting.lag
  pub lag_limit : setting.lag ≤ 1000000
  pub refresh_limit : setting.refresh ≤ 4194304

-- The numbers of a setting for several switches are in their limits.
pub record IsNetSetting (setting : NetSetting) : Type 0 where
  pub some_buckets : 1 ≤ setting.buckets
  pub places : setting.buckets * ways_number setting.ways ≤ 1024
  pub some_records : 1 ≤ setting.pipe
  pub records : setting.pipe ≤ 1024
  pub some_lag : 1 ≤ setting.lag
  pub lag_limit : setting.lag ≤ 1000000

pub record IsGeneration (generation : Generation) : Type 0 where
  pub some_packets : 1 ≤ generation.packets
  pub packets_limit : generation.packets ≤ 1000000
  pub start_limit : generation.start ≤ 2147483647

abbrev pub IsCommand : Command → Type 0
IsCommand (Run setting every) = IsSetting setting × (every ≤ 4194304)
IsCommand (Plan ways) = Unit {0}
IsCommand (Gen generation) = IsGeneration generation
IsCommand (Trial generation setting) = IsGeneration generation × IsSetting setting
IsCommand (Net setting) = IsNetSetting setting
IsCommand (Enclose setting) = IsSetting setting
IsCommand Compile = Unit {0}
IsCommand (RunPlan setting) = IsSetting setting
