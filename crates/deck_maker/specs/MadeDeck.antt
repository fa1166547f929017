-- The made decks: the oxidation of CO on a square lattice. The number of a deck gives the seed, the temperature, the size of
-- the lattice and the length of the run; all else is the same in every deck. Each line of a file ends with LF.
use Rattle.std.specs.Prelude.{ℕ, ◌+◌, ◌*◌, ◌/◌, ◌%◌, ◌==◌, List, [], ◌∷◌, ◌++◌, codes, if◌then◌else◌}
use Rattle.std.specs.Fmt.{decimal}

-- the random seed
abbrev pub made_seed : ℕ → ℕ
made_seed number = 1000 + number

-- the temperature, in K: the same for an even number and the odd one after it, and 10 K higher for the next two
abbrev pub made_kelvin : ℕ → ℕ
made_kelvin number = 500 + 10 * (number / 2)

-- how many sites each side of the lattice has: a small lattice where the number is even, and a large one where it is odd
abbrev pub made_side : ℕ → ℕ
made_side number = if number % 2 == 0 then 10 else 100

-- the greatest number of events: a short run where the number is even, and a long one where it is odd
abbrev pub made_steps : ℕ → ℕ
made_steps number = if number % 2 == 0 then 200 else 5000

-- simulation_input.dat
unfoldable pub made_simulation : ℕ → List ℕ
made_simulation number =
    codes "random_seed " ++ decimal (made_seed number) ++ codes "\n"
    ++ codes "temperature " ++ decimal (made_kelvin number) ++ codes ".0\n"
    ++ codes "pressure 1.00\n"
    ++ codes "n_gas_species 3\n"
    ++ codes "gas_specs_names CO O2 CO2\n"
    ++ codes "gas_energies 0.000 0.000 -2.337\n"
    ++ codes "gas_molec_weights 27.9949 31.9898 43.9898\n"
    ++ codes "gas_molar_fracs 0.45 0.55 0.000\n"
    ++ codes "n_surf_species 2\n"
    ++ codes "surf_specs_names CO* O*\n"
    ++ codes "surf_specs_dent 1 1\n"
    ++ codes "snapshots off\n"
    ++ codes "process_statistics off\n"
    ++ codes "species_numbers off\n"
    ++ codes "event_report off\n"
    ++ codes "max_steps " ++ decimal (made_steps number) ++ codes "\n"
    ++ codes "max_time 1.0\n"
    ++ codes "wall_time 3600\n"
    ++ codes "no_restart\n"
    ++ codes "finish\n"

-- lattice_input.dat
unfoldable pub made_lattice : ℕ → List ℕ
made_lattice number =
    codes "lattice default_choice\n"
    ++ codes "rectangular_periodic 1.0 " ++ decimal (made_side number) ++ codes " " ++ decimal (made_side number) ++ codes "\n"
    ++ codes "end_lattice\n"

-- energetics_input.dat; each cluster is on one line here
unfoldable pub made_energetics : List ℕ
made_energetics =
    codes "energetics\n"
    ++ codes "cluster CO_point\nsites 1\nlattice_state\n1 CO* 1\ncluster_eng -1.30\nend_cluster\n"
    ++ codes "cluster O_point\nsites 1\nlattice_state\n1 O* 1\ncluster_eng -1.20\nend_cluster\n"
    ++ codes "cluster CO_O_pair\nsites 2\nneighboring 1-2\nlattice_state\n1 CO* 1\n2 O* 1\ncluster_eng 0.10\nend_cluster\n"
    ++ codes "cluster O_O_pair\nsites 2\nneighboring 1-2\nlattice_state\n1 O* 1\n2 O* 1\ngraph_multiplicity 2\ncluster_eng 0.15\nend_cluster\n"
    ++ codes "end_energetics\n"

-- mechanism_input.dat; each step is on three lines here: its head, its states before and after, and its rate
unfoldable pub made_mechanism : List ℕ
made_mechanism =
    codes "mechanism\n"
    ++ codes "reversible_step CO_adsorption\ngas_reacs_prods CO -1\nsites 1\n"
    ++ codes "initial\n1 * 1\nfinal\n1 CO* 1\n"
    ++ codes "pre_expon 1.0e5\npe_ratio 1.0e-8\nactiv_eng 0.0\nend_reversible_step\n"
    ++ codes "reversible_step O2_adsorption\ngas_reacs_prods O2 -1\nsites 2\nneighboring 1-2\n"
    ++ codes "initial\n1 * 1\n2 * 1\nfinal\n1 O* 1\n2 O* 1\n"
    ++ codes "pre_expon 1.0e5\npe_ratio 1.0e-8\nactiv_eng 0.0\nend_reversible_step\n"
    ++ codes "step CO_oxidation\ngas_reacs_prods CO2 1\nsites 2\nneighboring 1-2\n"
    ++ codes "initial\n1 CO* 1\n2 O* 1\nfinal\n1 * 1\n2 * 1\n"
    ++ codes "pre_expon 1.0e13\nactiv_eng 0.9\nprox_factor 0.5\nend_step\n"
    ++ codes "end_mechanism\n"

-- the four files of a deck, in the order in which a deck is read
abbrev pub made_files : ℕ → List (List ℕ)
made_files number = made_simulation number ∷ made_lattice number ∷ made_energetics ∷ made_mechanism ∷ []
