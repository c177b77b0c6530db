-- How a walk over the entries changes the flags: the first entry without `!` closes every package, and then an entry sets the flag that it names.
-- That this ends in what `Packages` says of the whole list is proved.
use Rattle.std.specs.Prelude.{ℕ, Bool, false, cond, not, ◌&&◌, List}
use Rattle.packages.specs.Packages.{ntlm_name, kerberos_name, pku2u_name}
use Rattle.packages.specs.declared.package_list.PackageListConfig.{PackageListConfig}
use Rattle.text.specs.Cases.{same_ignoring_case}

-- a flag after one entry: d says that every entry before it had `!`, off that it has one, and hit that it names the package
abbrev pub flag_after : Bool → Bool → Bool → Bool → Bool
flag_after d flag off hit = cond hit (not off) (cond (d && not off) false flag)

-- all flags after an entry with this name
abbrev pub after : Bool → PackageListConfig → Bool → List ℕ → PackageListConfig
after d c off name =
    record {
      ntlm = flag_after d c.ntlm off (same_ignoring_case name ntlm_name);
      kerberos = flag_after d c.kerberos off (same_ignoring_case name kerberos_name);
      pku2u = flag_after d c.pku2u off (same_ignoring_case name pku2u_name);
    }
